use Rattle.std.proofs.Common.{◌≡◌}
use Rattle.pb_cmd_flat.specs.FlatPlans.{flat_customers}
use Rattle.pb_cmd_flat.proofs.flat_plan.flat_customers.Given as goal

abbrev pub invariant-loop-before : goal.invariant-loop-before
invariant-loop-before l = l.customers.items ≡ flat_customers l.before
