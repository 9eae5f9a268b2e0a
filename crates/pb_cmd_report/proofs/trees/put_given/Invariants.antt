use Rattle.std.proofs.Common.{◌≡◌, ◌+◌, ◌++◌, drop, flat_map, string_bytes}
use Rattle.pb_lan.specs.Numbering.{numbers_from}
use Rattle.pb_cmd_report.specs.Trees.{given_rows, all_given_rows}
use Rattle.pb_cmd_report.proofs.trees.put_given.Given as goal

abbrev pub invariant-loop-place : goal.invariant-loop-place
invariant-loop-place l =
    string_bytes l.out ++ flat_map (given_rows l.plan l.shape)
    (numbers_from (l.place + 1) (drop l.place l.plan.bridges)) ≡ string_bytes l.initial.out
    ++ all_given_rows l.plan l.shape
