use Rattle.std.proofs.Common.{◌≡◌, ◌+◌, ◌++◌, drop, flat_map, string_bytes}
use Rattle.pb_lan.specs.Numbering.{numbers_from}
use Rattle.pb_lan.specs.Ports.{local_ports}
use Rattle.pb_cmd_tree.specs.TreeTexts.{given_port_line, given_bridge_lines}
use Rattle.pb_cmd_tree.proofs.given.put_bridge.Given as goal

abbrev pub invariant-loop-place : goal.invariant-loop-place
invariant-loop-place l =
    string_bytes l.out ++ flat_map (given_port_line l.plan l.shape l.bridge)
    (numbers_from (l.place + 1) (drop l.place local_ports)) ≡ string_bytes l.fn.out
    ++ given_bridge_lines l.plan l.shape l.bridge
