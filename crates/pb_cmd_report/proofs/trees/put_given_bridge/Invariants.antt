use Rattle.std.proofs.Common.{◌≡◌, ◌+◌, ◌++◌, drop, flat_map, string_bytes}
use Rattle.pb_lan.specs.Numbering.{numbers_from}
use Rattle.pb_lan.specs.Ports.{local_ports}
use Rattle.pb_cmd_report.specs.Trees.{given_row, given_rows}
use Rattle.pb_cmd_report.proofs.trees.put_given_bridge.Given as goal

abbrev pub invariant-loop-place : goal.invariant-loop-place
invariant-loop-place l =
    string_bytes l.out ++ flat_map (given_row l.plan l.shape l.bridge)
    (numbers_from (l.place + 1) (drop l.place local_ports)) ≡ string_bytes l.fn.out
    ++ given_rows l.plan l.shape l.bridge
