use Rattle.std.proofs.Common.{◌≡◌, ◌++◌, drop, flat_map, string_bytes}
use Rattle.pb_plan_diff.specs.Differences.{change_lines, titled}
use Rattle.pb_plan_diff.proofs.differences.put_changes.Given as goal

abbrev pub invariant-loop-old : goal.invariant-loop-old
invariant-loop-old l =
    string_bytes l.out ++ flat_map (λ p. change_lines p (titled l.news p.title)) (drop l.old-index l.olds)
    ≡ string_bytes l.initial.out ++ flat_map (λ p. change_lines p (titled l.news p.title)) l.olds
