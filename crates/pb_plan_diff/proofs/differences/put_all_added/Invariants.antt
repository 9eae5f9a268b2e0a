use Rattle.std.proofs.Common.{◌≡◌, ◌++◌, drop, flat_map, string_bytes}
use Rattle.pb_plan_diff.specs.Differences.{added_line}
use Rattle.pb_plan_diff.proofs.differences.put_all_added.Given as goal

abbrev pub invariant-loop-new : goal.invariant-loop-new
invariant-loop-new l =
    string_bytes l.out ++ flat_map (added_line l.olds) (drop l.new-index l.news)
    ≡ string_bytes l.initial.out ++ flat_map (added_line l.olds) l.news
