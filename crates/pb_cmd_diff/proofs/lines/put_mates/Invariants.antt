use Rattle.std.proofs.Common.{◌≡◌, ◌++◌, drop, flat_map, string_bytes}
use Rattle.pb_cmd_diff.specs.Reports.{mate_text}
use Rattle.pb_cmd_diff.proofs.lines.put_mates.Given as goal

abbrev pub invariant-loop-other : goal.invariant-loop-other
invariant-loop-other l =
    string_bytes l.out ++ flat_map (mate_text l.old l.one) (drop l.other-index l.members)
    ≡ string_bytes l.initial.out ++ flat_map (mate_text l.old l.one) l.members
