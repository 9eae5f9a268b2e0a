-- Links between bridges, and bridges that are removed, each with its last remaining link. Both go by index.
use Rattle.std.specs.Prelude.{◌≡◌, ℕ, ◌+◌, ◌<◌, ◌⊎◌, List, [], ◌∷◌, Some, None, slice_get, slice_set, ◌==◌, if◌then◌else◌}
use Rattle.std.specs.declared.option.Option.{Option}
use Rattle.pb_forest.specs.declared.graph.Branch.{Branch}
use Rattle.pb_forest.specs.declared.graph.Ends.{Ends}

-- n at this bridge, and 0 at all others
abbrev pub at : ℕ → ℕ → ℕ → ℕ
at bridge x n = if bridge == x then n else 0

-- n for each end of the link at the bridge
abbrev pub share : Option Ends → ℕ → ℕ → ℕ
share None x n = 0
share (Some ends) x n = at ends.a x n + at ends.b x n

-- the number of ends of links at the bridge
abbrev pub degree : List (Option Ends) → ℕ → ℕ
degree [] x = 0
degree (joined ∷ links) x = share joined x 1 + degree links x

-- the sum of the indexes of these ends' links; the first link has index n
abbrev pub index_sum : ℕ → List (Option Ends) → ℕ → ℕ
index_sum n [] x = 0
index_sum n (joined ∷ links) x = share joined x n + index_sum (n + 1) links x

-- the ends are at these two bridges
abbrev pub Joins : Ends → ℕ → ℕ → Type 0
Joins ends x y = ((ends.a ≡ x) × (ends.b ≡ y)) ⊎ ((ends.b ≡ x) × (ends.a ≡ y))

-- the link with this index joins the two bridges
pub record Meets (links : List (Option Ends)) (k x y : ℕ) : Type 0 where
  pub ends : Ends
  pub there : slice_get links k ≡ Some (Some ends)
  pub joins : Joins ends x y

-- both ends are at bridges with indexes below `bridges`
abbrev pub IsBetween : ℕ → Option Ends → Type 0
IsBetween bridges None = Unit {0}
IsBetween bridges (Some ends) = (ends.a < bridges) × (ends.b < bridges)

-- all links join bridges with indexes below `bridges`
abbrev pub AreWithin : ℕ → List (Option Ends) → Type 0
AreWithin bridges links = (k x y : ℕ) → Meets links k x y → x < bridges

-- the branch's link is the last that remains at its bridge
pub record IsLast (links : List (Option Ends)) (b : Branch) : Type 0 where
  pub link : Meets links b.link b.bridge b.above
  pub last : degree links b.bridge ≡ 1

-- bridges are removed, one after the other
abbrev pub AreTakenOff : List (Option Ends) → List Branch → List (Option Ends) → Type 0
AreTakenOff old [] new = old ≡ new
AreTakenOff old (b ∷ bs) new = IsLast old b × AreTakenOff (slice_set old b.link None) bs new
