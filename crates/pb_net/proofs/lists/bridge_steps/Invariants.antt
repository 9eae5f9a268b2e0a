use Rattle.std.proofs.Common.{◌≡◌, ◌≤◌, true, length, map, vec_capacity}
use Rattle.std.specs.List.{AllByRecursion}
use Rattle.std.specs.Vec.Iter.{into_iter_items}
use Rattle.pb_net.proofs.lists.bridge_steps.Given as goal

abbrev pub invariant-loop-bridge : goal.invariant-loop-bridge
invariant-loop-bridge l =
    (l.lists.items ≡ map (λ b. b.steps) l.yielded) × (length l.fn.bridges.items ≤ vec_capacity l.lists)
    × AllByRecursion (λ b. b.is_kept ≡ true) (into_iter_items l.bridge-iterator)
