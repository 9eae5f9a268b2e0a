-- The faults of bridges as faults of the network.
use Rattle.pb_net.specs.declared.fault.NetFault.{NetFault}
use Rattle.pb_net.specs.declared.fault.NetFault.TheVariants.{StepLimit, Memory}
use Rattle.pb_relay.specs.declared.fault.BridgeFault.{BridgeFault}
use Rattle.pb_relay.specs.declared.fault.BridgeFault.TheVariants.{StepLimit as bridge_limit, Memory as bridge_memory}

abbrev pub fault_of : BridgeFault → NetFault
fault_of bridge_limit = StepLimit
fault_of bridge_memory = Memory
