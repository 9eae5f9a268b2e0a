use Rattle.std.proofs.Common.{ℕ, ◌+◌}
use Rattle.pb_forest.proofs.PathLemmas.{Goes}
use Rattle.pb_forest.specs.Paths.{depth_of}
use Rattle.pb_lan.specs.Forests.{Shows}
use Rattle.pb_lan.specs.declared.shape.Shape.{Shape}
use Rattle.pb_forest.proofs.ways.path.Given as goal

abbrev pub invariant-loop-from_a : goal.invariant-loop-from_a
invariant-loop-from_a l =
    (shape : Shape) (vid : ℕ) → Shows l.plan shape vid l.rooted
    → Goes l.plan shape vid l.rooted l.a l.b l.from_a.bridge l.from_a.links.items l.from_b.bridge l.from_b.links.items

abbrev pub decreases-loop-from_a : goal.decreases-loop-from_a
decreases-loop-from_a l = depth_of l.rooted l.from_a.bridge + depth_of l.rooted l.from_b.bridge
