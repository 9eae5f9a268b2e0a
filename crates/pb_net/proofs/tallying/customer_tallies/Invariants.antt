use Rattle.std.proofs.Common.{◌≡◌, map}
use Rattle.pb_net.proofs.tallying.customer_tallies.Given as goal

abbrev pub invariant-loop-customer : goal.invariant-loop-customer
invariant-loop-customer l = l.tallies.items ≡ map (λ p. p.steps) l.yielded
