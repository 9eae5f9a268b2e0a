-- The printed text about forwarding loops.
use Rattle.std.specs.Prelude.{◌≡◌, ◌⊎◌, ℕ, List, [], ◌∷◌, ◌++◌, flat_map, codes, IsPermutation}
use Rattle.pb_lan.specs.Forests.{IsForest}
use Rattle.pb_lan.specs.declared.plan.Plan.{Plan}
use Rattle.pb_lan.specs.declared.plan.ServicePlan.{ServicePlan}
use Rattle.pb_lan.specs.declared.shape.Shape.{Shape}

-- the line for a service whose active links form a loop
abbrev pub loop_line : List ℕ → List ℕ
loop_line name = codes "loop " ++ name ++ 10 ∷ []

-- the lines for these services, or `forest yes` if there are none
abbrev pub forest_lines : List (List ℕ) → List ℕ
forest_lines [] = codes "forest yes" ++ 10 ∷ []
forest_lines (name ∷ names) = codes "forest no" ++ 10 ∷ flat_map loop_line (name ∷ names)

-- the names of the services whose active links are no forest, in the order of the plan
abbrev pub AreLooping : Plan → Shape → List ServicePlan → List (List ℕ) → Type 0
AreLooping plan shape [] names = names ≡ []
AreLooping plan shape (service ∷ services) names =
    (others : List (List ℕ)) × AreLooping plan shape services others
    × ((IsForest plan shape service.vid × (names ≡ others)) ⊎ ((IsForest plan shape service.vid → ⊥) × (names ≡ service.name ∷ others)))

-- the text names the services, in some order, whose active links are no forest
pub record IsForestText (plan : Plan) (shape : Shape) (text : List ℕ) : Type 0 where
  pub looping : List (List ℕ)
  pub are : AreLooping plan shape plan.services looping
  pub names : List (List ℕ)
  pub same : IsPermutation looping names
  pub text_is : text ≡ forest_lines names
