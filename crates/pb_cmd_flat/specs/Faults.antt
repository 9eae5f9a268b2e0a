-- The faults of the command by those of the bridge.
use Rattle.pb_messages.specs.declared.fault.CommandFault.{CommandFault}
use Rattle.pb_messages.specs.declared.fault.CommandFault.TheVariants.{Steps, Memory}
use Rattle.pb_relay.specs.declared.fault.BridgeFault.{BridgeFault}
use Rattle.pb_relay.specs.declared.fault.BridgeFault.TheVariants.{StepLimit, Memory as no_step_held}

abbrev pub of_bridge : BridgeFault → CommandFault
of_bridge StepLimit = Steps
of_bridge no_step_held = Memory
