use Rattle.std.proofs.Common.{◌≡◌, map, take}
use Rattle.pb_step_script.proofs.names.customer_names.Given as goal

abbrev pub invariant-loop-customer : goal.invariant-loop-customer
invariant-loop-customer l = map (λ n. n.now) l.names.items ≡ map (λ b. b.name) (take l.customer-index l.plan.customers)
