use Rattle.std.proofs.Common.{◌≡◌, ◌++◌, drop, flat_map, string_bytes}
use Rattle.pb_cmd_diff.specs.Reports.{disconnected_line}
use Rattle.pb_cmd_diff.proofs.lines.put_all_disconnected.Given as goal

abbrev pub invariant-loop-one : goal.invariant-loop-one
invariant-loop-one l =
    string_bytes l.out ++ flat_map (disconnected_line l.head l.old l.members) (drop l.one-index l.members)
    ≡ string_bytes l.initial.out ++ flat_map (disconnected_line l.head l.old l.members) l.members
