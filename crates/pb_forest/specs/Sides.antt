-- Climbing at one of two sides.
use Rattle.std.specs.Prelude.{◌≡◌, ◌≤◌, ◌<◌, Bool}
use Rattle.pb_forest.specs.Paths.{depth_of, Climbs}
use Rattle.pb_forest.specs.declared.ways.Side.{Side}
use Rattle.pb_lan.specs.declared.plan.Plan.{Plan}
use Rattle.pb_lan.specs.declared.shape.Rooted.{Rooted}

-- the first side climbs if it is at least as deep as the other, otherwise the other does
pub record ClimbsDeeper (plan : Plan) (rooted : Rooted) (a b c d : Side) (climbs : Bool) : Type 0 where
  pub first : depth_of rooted b.bridge ≤ depth_of rooted a.bridge
      → Climbs plan rooted a.bridge a.links.items c.bridge c.links.items climbs × (d ≡ b)
  pub second : depth_of rooted a.bridge < depth_of rooted b.bridge
      → Climbs plan rooted b.bridge b.links.items d.bridge d.links.items climbs × (c ≡ a)
