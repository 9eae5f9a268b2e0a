use Rattle.std.proofs.Common.{◌≡◌, ◌++◌, drop, flat_map, string_bytes}
use Rattle.pb_control_socket.specs.Texts.{line_among}
use Rattle.pb_control_socket.proofs.tree.put_views.Given as goal

abbrev pub invariant-loop-port : goal.invariant-loop-port
invariant-loop-port l =
    string_bytes l.out ++ flat_map (line_among l.name l.views) (drop l.port-index l.ports) ≡ string_bytes
    l.initial.out ++ flat_map (line_among l.name l.views) l.ports
