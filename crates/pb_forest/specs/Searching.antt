-- The active links of a plan as a graph, and the result of the search for a certificate.
use Rattle.std.specs.Prelude.{◌≡◌, ℕ, ◌+◌, List, [], ◌∷◌, Some, None, true, false}
use Rattle.std.specs.declared.option.Option.{Option}
use Rattle.pb_forest.specs.declared.graph.Ends.{Ends}
use Rattle.pb_lan.specs.Forests.{IsForest, Shows}
use Rattle.pb_lan.specs.Shapes.{is_active}
use Rattle.pb_lan.specs.declared.plan.Plan.{Plan}
use Rattle.pb_lan.specs.declared.plan.LinkPlan.{LinkPlan}
use Rattle.pb_lan.specs.declared.shape.Shape.{Shape}
use Rattle.pb_lan.specs.declared.shape.Rooted.{Rooted}

-- the result is a certificate, or `None` if there is none
abbrev pub AnswersForest : Plan → Shape → ℕ → Option Rooted → Type 0
AnswersForest plan shape vid None = IsForest plan shape vid → ⊥
AnswersForest plan shape vid (Some rooted) = Shows plan shape vid rooted

-- the link joins the bridges with these indexes
abbrev pub HasIndexes : LinkPlan → Ends → Type 0
HasIndexes link ends = (link.a.bridge ≡ ends.a + 1) × (link.b.bridge ≡ ends.b + 1)

-- the bridges that the link joins, or `None` if it is not active
abbrev pub IsEdge : Plan → Shape → ℕ → LinkPlan → Option Ends → Type 0
IsEdge plan shape vid link None = is_active plan shape vid link ≡ false
IsEdge plan shape vid link (Some ends) = (is_active plan shape vid link ≡ true) × HasIndexes link ends

-- the bridges that each link joins
abbrev pub AreEdges : Plan → Shape → ℕ → List LinkPlan → List (Option Ends) → Type 0
AreEdges plan shape vid [] [] = Unit {0}
AreEdges plan shape vid (link ∷ links) (joined ∷ rest) = IsEdge plan shape vid link joined × AreEdges plan shape vid links rest
AreEdges plan shape vid _ _ = ⊥
