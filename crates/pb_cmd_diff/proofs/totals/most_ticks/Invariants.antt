use Rattle.std.proofs.Common.{◌≡◌, max, drop}
use Rattle.pb_cmd_diff.specs.Reports.{most_ticks}
use Rattle.pb_cmd_diff.proofs.totals.most_ticks.Given as goal

abbrev pub invariant-loop-convergence : goal.invariant-loop-convergence
invariant-loop-convergence l =
    max l.most (most_ticks (drop l.convergence-index l.convergences)) ≡ most_ticks l.convergences
