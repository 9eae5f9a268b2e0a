use Rattle.std.proofs.Common.{◌≡◌, ◌++◌, drop, flat_map}
use Rattle.pb_cmd_diff.specs.Reports.{old_convergence}
use Rattle.pb_cmd_diff.proofs.totals.old_convergences.Given as goal

abbrev pub invariant-loop-effect : goal.invariant-loop-effect
invariant-loop-effect l =
    l.convergences.items ++ flat_map old_convergence (drop l.effect-index l.effects)
    ≡ l.initial.convergences.items ++ flat_map old_convergence l.effects
