use Rattle.std.proofs.Common.{◌≡◌, ◌++◌, drop, flat_map, string_bytes}
use Rattle.pb_control_socket.specs.Texts.{port_drops}
use Rattle.pb_control_socket.proofs.drops.put_ports.Given as goal

abbrev pub invariant-loop-port : goal.invariant-loop-port
invariant-loop-port l =
    string_bytes l.out ++ flat_map (port_drops l.name l.counts) (drop l.port-index l.ports) ≡ string_bytes
    l.initial.out ++ flat_map (port_drops l.name l.counts) l.ports
