use Rattle.std.proofs.Common.{◌≡◌, ◌++◌, drop, map}
use Rattle.pb_cmd_diff.specs.Members.{swapped}
use Rattle.pb_cmd_diff.proofs.member.swapped.Given as goal

abbrev pub invariant-loop-member : goal.invariant-loop-member
invariant-loop-member l =
    l.all.items ++ map swapped (drop l.member-index l.members) ≡ l.initial.all.items ++ map swapped l.members
