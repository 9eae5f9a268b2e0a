-- The parts of a certificate of a forest.
use Rattle.std.specs.Prelude.{◌≡◌, ℕ, ◌+◌, ◌<◌, ◌↔◌, Bool, true, false, List, Some, None, slice_get, slice_set, slice_index_or, length, not}
use Rattle.std.specs.declared.option.Option.{Option}
use Rattle.pb_lan.specs.Forests.{LeadsUp}
use Rattle.pb_lan.specs.Numbering.{numbered}
use Rattle.pb_lan.specs.Shapes.{is_active}
use Rattle.pb_lan.specs.declared.plan.Plan.{Plan}
use Rattle.pb_lan.specs.declared.plan.End.{End}
use Rattle.pb_lan.specs.declared.plan.LinkPlan.{LinkPlan}
use Rattle.pb_lan.specs.declared.shape.Shape.{Shape}
use Rattle.pb_lan.specs.declared.shape.Rooted.{Rooted}

-- the near end is at the bridge, and the far end's bridge has a depth that is one less
pub record IsBelow (depths : List ℕ) (near far : End) (bridge : ℕ) : Type 0 where
  pub from : near.bridge ≡ bridge
  pub depth : ℕ
  pub depth_above : numbered depths far.bridge ≡ Some depth
  pub depth_here : numbered depths bridge ≡ Some (depth + 1)

-- a bridge's entry is right: its link leads up, or it is a root of depth 0
abbrev pub Stands : Plan → Shape → ℕ → Rooted → ℕ → Option ℕ → Type 0
Stands plan shape vid rooted bridge None = numbered rooted.depth bridge ≡ Some 0
Stands plan shape vid rooted bridge (Some number) = LeadsUp plan shape vid rooted bridge number

-- all entries are right
abbrev pub AllStand : Plan → Shape → ℕ → Rooted → Type 0
AllStand plan shape vid rooted = (bridge : ℕ) (up : Option ℕ) → numbered rooted.up bridge ≡ Some up → Stands plan shape vid rooted bridge up

-- no link leads up from two bridges
abbrev pub AreApart : List (Option ℕ) → Type 0
AreApart ups = (i j number : ℕ) → slice_get ups i ≡ Some (Some number) → slice_get ups j ≡ Some (Some number) → i ≡ j

-- the link leads up from some bridge
abbrev pub IsWayUp : List (Option ℕ) → ℕ → Type 0
IsWayUp ups number = (i : ℕ) × (slice_get ups i ≡ Some (Some number))

-- exactly the links that lead up from some bridge are marked
abbrev pub AreMarked : List (Option ℕ) → List Bool → Type 0
AreMarked ups marks = (number : ℕ) → slice_index_or marks number false ≡ true ↔ IsWayUp ups number

-- the link of an entry is marked, and the result is whether it was not marked
abbrev pub MarksOne : Option ℕ → List Bool → List Bool → Bool → Type 0
MarksOne None old new is_new = (new ≡ old) × (is_new ≡ true)
MarksOne (Some number) old new is_new = (new ≡ slice_set old number true) × (is_new ≡ not (slice_index_or old number false)) × (number < length old)

-- each active link leads up from some bridge
abbrev pub AllLeadUp : Plan → Shape → ℕ → List (Option ℕ) → Type 0
AllLeadUp plan shape vid ups = (number : ℕ) (link : LinkPlan) → numbered plan.links number ≡ Some link → is_active plan shape vid link ≡ true → IsWayUp ups number
