-- Walks over links that pass a test, as those whose two ends are enabled, and what they cost.
use Rattle.std.specs.Prelude.{◌≡◌, ℕ, ◌+◌, ◌≤◌, Bool, List, [], ◌∷◌}
use Rattle.pb_lan.specs.Forests.{CrossesBy}
use Rattle.pb_lan.specs.declared.plan.Plan.{Plan}
use Rattle.pb_lan.specs.declared.plan.End.{End}
use Rattle.pb_lan.specs.declared.plan.LinkPlan.{LinkPlan}
use Rattle.pb_rstp.specs.Profile.{id_in}
use Rattle.pb_rstp.specs.declared.vector.Vector.{Vector}
use Rattle.pb_spanning_tree.specs.TreeOf.{Disabling, is_enabled}

-- links that pass a test lead from one bridge to the other: each is left by its near end and entered by its far one
abbrev pub IsWalkOver : Plan → (LinkPlan → Bool) → ℕ → List (End × End) → ℕ → Type 0
IsWalkOver plan passes here [] there = here ≡ there
IsWalkOver plan passes here ((near, far) ∷ steps) there =
    (number : ℕ) × CrossesBy plan passes number near far × (near.bridge ≡ here)
    × IsWalkOver plan passes far.bridge steps there

-- links that pass a test join two bridges
abbrev pub AreJoinedOver : Plan → (LinkPlan → Bool) → ℕ → ℕ → Type 0
AreJoinedOver plan passes here there = (steps : List (End × End)) × IsWalkOver plan passes here steps there

-- enabled links lead from one bridge to the other
abbrev pub IsEnabledWalk : Plan → Disabling → ℕ → List (End × End) → ℕ → Type 0
IsEnabledWalk plan disabled here steps there = IsWalkOver plan (is_enabled disabled) here steps there

-- the cost of a walk: the sum of the costs of its near ends
abbrev pub walk_cost : List (End × End) → ℕ
walk_cost [] = 0
walk_cost ((near, far) ∷ steps) = walk_cost steps + near.cost

-- the root is at most the identifier, and if it is this one, the root path cost is at most this cost
pub record IsWithin (v : Vector) (id highest : ℕ) : Type 0 where
  pub root : v.root ≤ id
  pub cost : v.root ≡ id → v.cost ≤ highest

-- the walk leads to the bridge with the vector's root, at the vector's root path cost
pub record Reaches (plan : Plan) (disabled : Disabling) (bridge : ℕ) (v : Vector) : Type 0 where
  pub there : ℕ
  pub steps : List (End × End)
  pub walk : IsEnabledWalk plan disabled bridge steps there
  pub root : v.root ≡ id_in plan there
  pub cost : v.cost ≡ walk_cost steps

-- a walk from the bridge has this root and root path cost, and none has a lesser root, or this root at less cost
pub record IsLeastCost (plan : Plan) (disabled : Disabling) (bridge : ℕ) (v : Vector) : Type 0 where
  pub reached : Reaches plan disabled bridge v
  pub least : (there : ℕ) (steps : List (End × End)) → IsEnabledWalk plan disabled bridge steps there
      → IsWithin v (id_in plan there) (walk_cost steps)
