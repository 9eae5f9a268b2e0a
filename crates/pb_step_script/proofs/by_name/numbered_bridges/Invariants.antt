use Rattle.std.proofs.Common.{◌≡◌, ◌++◌, ◌+◌, map, drop}
use Rattle.pb_step_script.specs.Counts.{with_numbers}
use Rattle.pb_step_script.proofs.by_name.numbered_bridges.Given as goal

abbrev pub invariant-loop-place : goal.invariant-loop-place
invariant-loop-place l =
    map (λ n. (n.0.now, n.1)) l.bridges.items
    ++ with_numbers (l.place + 1) (map (λ x. x.name) (drop l.place l.plan.bridges)) ≡ with_numbers 1
    (map (λ x. x.name) l.plan.bridges)
