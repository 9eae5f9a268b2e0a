-- The number of links to the root, brought down link by link.
use Rattle.std.specs.Prelude.{◌≡◌, ◌≤◌, ◌<◌, ◌↔◌, ℕ, ◌+◌, List, length, Some, min, slice_index, slice_get, slice_set}
use Rattle.pb_lan.specs.Plans.{IsNumber}
use Rattle.pb_lan.specs.declared.plan.Plan.{Plan}
use Rattle.pb_lan.specs.declared.plan.LinkPlan.{LinkPlan}
use Rattle.pb_warnings.specs.Links.{passes}
use Rattle.pb_joins.specs.Joins.{Leads, mark_at}
use Rattle.pb_warnings.specs.declared.links.Links.TheVariants.{All}

-- the list after an entry is brought down to one more than another one, at most 255
abbrev pub relaxed : List ℕ → ℕ → ℕ → List ℕ
relaxed hops from into = slice_set hops into (min (slice_index hops into) (min (slice_index hops from + 1) 255))

-- a path of so many links, or fewer, leads from the bridge to the root
abbrev pub IsWithin : Plan → ℕ → ℕ → ℕ → Type 0
IsWithin plan root most bridge = (numbers : List ℕ) × Leads plan (passes All) bridge numbers root × (length numbers ≤ most)

-- a bridge that has a number below 255 is within so many links of the root
pub record AreHops (plan : Plan) (root : ℕ) (hops : List ℕ) : Type 0 where
  pub within : (bridge : ℕ) → IsNumber bridge 32 → mark_at hops bridge < 255 → IsWithin plan root (mark_at hops bridge) bridge

-- the two bridges have numbers at most one more than the other one had
pub record IsNear (link : LinkPlan) (old new : List ℕ) : Type 0 where
  pub a : mark_at new link.a.bridge ≤ mark_at old link.b.bridge + 1
  pub b : mark_at new link.b.bridge ≤ mark_at old link.a.bridge + 1

-- no number rises, bridges at the first links so many are near, and numbers stay right
pub record Nears (plan : Plan) (count : ℕ) (old new : List ℕ) : Type 0 where
  pub lower : (bridge : ℕ) → mark_at new bridge ≤ mark_at old bridge
  pub near : (k : ℕ) (link : LinkPlan) → k < count → slice_get plan.links k ≡ Some link → IsNear link old new
  pub right : (root : ℕ) → AreHops plan root old → AreHops plan root new

-- the number of a bridge is at most 20 if and only if a path of at most 20 links leads from it to the root
abbrev pub TellsWithin : Plan → ℕ → ℕ → List ℕ → Type 0
TellsWithin plan root most hops =
    (bridge : ℕ) → IsNumber bridge 32 → (mark_at hops bridge ≤ most) ↔ IsWithin plan root most bridge
