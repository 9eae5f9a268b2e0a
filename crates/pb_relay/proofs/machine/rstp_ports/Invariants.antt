use Rattle.std.proofs.Common.{◌≡◌, take}
use Rattle.std.specs.List.{flat_map}
use Rattle.pb_lan.specs.Ports.{port_at, local_ports}
use Rattle.pb_rstp.specs.Profile.{rstp_port}
use Rattle.pb_relay.proofs.machine.rstp_ports.Given as goal

abbrev pub invariant-loop-r : goal.invariant-loop-r
invariant-loop-r l = l.ports.items ≡ flat_map (λ port. rstp_port port (port_at l.plan l.number port))
    (take l.r local_ports)
