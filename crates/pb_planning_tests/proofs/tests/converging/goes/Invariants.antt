use Rattle.std.proofs.Common.{◌≡◌}
use Rattle.pb_planning_tests.proofs.tests.converging.goes.Given as goal

abbrev pub invariant-loop-number : goal.invariant-loop-number
invariant-loop-number g l = l.net.plan ≡ l.plan
