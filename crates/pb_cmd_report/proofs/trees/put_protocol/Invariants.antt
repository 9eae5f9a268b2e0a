use Rattle.std.proofs.Common.{◌≡◌, ◌+◌, ◌++◌, drop, flat_map, string_bytes}
use Rattle.pb_lan.specs.Numbering.{numbers_from}
use Rattle.pb_cmd_report.specs.Trees.{own_rows, protocol_rows}
use Rattle.pb_cmd_report.proofs.trees.put_protocol.Given as goal

abbrev pub invariant-loop-place : goal.invariant-loop-place
invariant-loop-place l =
    string_bytes l.out ++ flat_map (own_rows l.plan l.net.rec)
    (numbers_from (l.place + 1) (drop l.place l.plan.bridges)) ≡ string_bytes l.initial.out
    ++ protocol_rows l.plan l.net.rec
