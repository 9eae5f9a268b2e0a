use Rattle.std.proofs.Common.{◌≡◌, ◌+◌, ◌++◌, drop, flat_map, string_bytes}
use Rattle.pb_lan.specs.Numbering.{numbers_from}
use Rattle.pb_cmd_tree.specs.TreeTexts.{up_line, up_lines}
use Rattle.pb_cmd_tree.proofs.services.put_ups.Given as goal

abbrev pub invariant-loop-place : goal.invariant-loop-place
invariant-loop-place l =
    string_bytes l.out ++ flat_map (up_line l.plan l.service l.rooted)
    (numbers_from (l.place + 1) (drop l.place l.plan.bridges)) ≡ string_bytes l.initial.out
    ++ up_lines l.plan l.service l.rooted
