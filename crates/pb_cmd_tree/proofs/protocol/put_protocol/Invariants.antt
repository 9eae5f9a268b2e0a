use Rattle.std.proofs.Common.{◌≡◌, ◌+◌, ◌++◌, drop, flat_map, string_bytes}
use Rattle.pb_lan.specs.Numbering.{numbers_from}
use Rattle.pb_cmd_tree.specs.TreeTexts.{own_lines, protocol_lines}
use Rattle.pb_cmd_tree.proofs.protocol.put_protocol.Given as goal

abbrev pub invariant-loop-place : goal.invariant-loop-place
invariant-loop-place l =
    string_bytes l.out ++ flat_map (own_lines l.plan l.net.rec)
    (numbers_from (l.place + 1) (drop l.place l.plan.bridges)) ≡ string_bytes l.initial.out
    ++ protocol_lines l.plan l.net.rec
