use Rattle.std.proofs.Common.{◌≡◌, ◌≤◌, true, length, map, vec_capacity}
use Rattle.std.specs.List.{AllByRecursion}
use Rattle.std.specs.Vec.Iter.{into_iter_items}
use Rattle.pb_net.proofs.lists.customer_steps.Given as goal

abbrev pub invariant-loop-customer : goal.invariant-loop-customer
invariant-loop-customer l =
    (l.lists.items ≡ map (λ p. p.steps) l.yielded) × (length l.fn.customers.items ≤ vec_capacity l.lists)
    × AllByRecursion (λ p. p.is_kept ≡ true) (into_iter_items l.customer-iterator)
