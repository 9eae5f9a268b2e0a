-- Vectors that none of a bridge's paths betters, and that rise along the paths that bridges take.
use Rattle.std.specs.Prelude.{◌≡◌, ◌≢◌, ℕ, ◌<◌, ◌⊎◌, true, false, List, ◌∷◌, Some, length}
use Rattle.std.specs.List.{AllByRecursion}
use Rattle.pb_lan.specs.Forests.{HasEnds}
use Rattle.pb_lan.specs.Numbering.{numbered}
use Rattle.pb_lan.specs.Plans.{IsNumber}
use Rattle.pb_lan.specs.declared.plan.Plan.{Plan}
use Rattle.pb_lan.specs.declared.plan.End.{End}
use Rattle.pb_lan.specs.declared.plan.LinkPlan.{LinkPlan}
use Rattle.pb_rstp.specs.Vectors.{is_better}
use Rattle.pb_rstp.specs.declared.vector.Vector.{Vector}
use Rattle.pb_spanning_tree.specs.TreeOf.{Disabling, is_enabled, own_of, path_over, paths_of, vector_in}

-- a bridge takes the path over a link to another bridge, which has less root path cost
pub record TakesPath (plan : Plan) (disabled : Disabling) (vectors : List Vector) (bridge : ℕ) : Type 0 where
  pub number : ℕ
  pub link : LinkPlan
  pub near : End
  pub far : End
  pub at : numbered plan.links number ≡ Some link
  pub ends : HasEnds link near far
  pub enabled : is_enabled disabled link ≡ true
  pub from : near.bridge ≡ bridge
  pub other : far.bridge ≢ bridge
  pub vector : vector_in vectors bridge ≡ path_over plan vectors near far
  pub rises : (vector_in vectors far.bridge).cost < (vector_in vectors bridge).cost

-- each bridge's vector is its own or that of a path that it takes, and none of these is better
pub record AreSolution (plan : Plan) (disabled : Disabling) (vectors : List Vector) : Type 0 where
  pub count : length vectors ≡ length plan.bridges
  pub least : (bridge : ℕ) → IsNumber bridge (length plan.bridges)
      → AllByRecursion (λ v. is_better v (vector_in vectors bridge) ≡ false) (own_of plan bridge ∷ paths_of plan disabled vectors bridge)
  pub taken : (bridge : ℕ) → IsNumber bridge (length plan.bridges)
      → (vector_in vectors bridge ≡ own_of plan bridge) ⊎ TakesPath plan disabled vectors bridge
