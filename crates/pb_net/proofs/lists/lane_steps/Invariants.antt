use Rattle.std.proofs.Common.{◌≡◌, ◌≤◌, true, length, map, vec_capacity}
use Rattle.std.specs.List.{AllByRecursion}
use Rattle.std.specs.Vec.Iter.{into_iter_items}
use Rattle.pb_net.proofs.lists.lane_steps.Given as goal

abbrev pub invariant-loop-lane : goal.invariant-loop-lane
invariant-loop-lane l =
    (l.lists.items ≡ map (λ l. l.steps) l.yielded) × (length l.fn.lanes.items ≤ vec_capacity l.lists)
    × AllByRecursion (λ l. l.is_kept ≡ true) (into_iter_items l.lane-iterator)
