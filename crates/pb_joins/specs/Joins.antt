-- Paths over links, and marks for the bridges that they join.
use Rattle.std.specs.Prelude.{◌≡◌, ◌↔◌, ℕ, ◌-◌, Bool, List, [], ◌∷◌, slice_index}
use Rattle.pb_lan.specs.Forests.{CrossesBy}
use Rattle.pb_lan.specs.Plans.{IsNumber}
use Rattle.pb_lan.specs.declared.plan.Plan.{Plan}
use Rattle.pb_lan.specs.declared.plan.End.{End}
use Rattle.pb_lan.specs.declared.plan.LinkPlan.{LinkPlan}

-- the links with these numbers lead from one bridge to the other, and each passes the test
abbrev pub Leads : Plan → (LinkPlan → Bool) → ℕ → List ℕ → ℕ → Type 0
Leads plan test here [] there = here ≡ there
Leads plan test here (number ∷ numbers) there =
    (near : End) × (far : End) × CrossesBy plan test number near far × (near.bridge ≡ here) × Leads plan test far.bridge numbers there

-- links that pass the test lead from one bridge to the other
abbrev pub AreJoined : Plan → (LinkPlan → Bool) → ℕ → ℕ → Type 0
AreJoined plan test here there = (numbers : List ℕ) × Leads plan test here numbers there

-- the number that a table has for a bridge
abbrev pub mark_at : List ℕ → ℕ → ℕ
mark_at marks bridge = slice_index marks (bridge - 1)

-- two bridges have one mark if and only if links that pass the test join them
abbrev pub TellsJoined : Plan → (LinkPlan → Bool) → List ℕ → Type 0
TellsJoined plan test marks =
    (a b : ℕ) → IsNumber a 32 → IsNumber b 32 → (mark_at marks a ≡ mark_at marks b) ↔ AreJoined plan test a b

-- what is computed of a link is what the test says
abbrev pub Computes : (LinkPlan → Bool → Type 0) → (LinkPlan → Bool) → Type 0
Computes returns test = (link : LinkPlan) (yes : Bool) → returns link yes → yes ≡ test link
