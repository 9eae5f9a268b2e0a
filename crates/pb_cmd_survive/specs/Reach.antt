-- Which bridges and customer ports reach each other.
use Rattle.std.specs.Prelude.{◌≡◌, ◌⊎◌, ◌↔◌, ℕ, Bool, false, List, Some}
use Rattle.pb_joins.specs.Joins.{mark_at}
use Rattle.pb_lan.specs.Forests.{AreJoined}
use Rattle.pb_lan.specs.Numbering.{numbered}
use Rattle.pb_lan.specs.Plans.{IsNumber}
use Rattle.pb_lan.specs.declared.plan.Plan.{Plan}
use Rattle.pb_lan.specs.declared.plan.CustomerPlan.{CustomerPlan}
use Rattle.pb_lan.specs.declared.shape.Shape.{Shape}

-- the customer ports with these numbers are at bridges that are not out, and active links join the bridges
pub record AreLinked (plan : Plan) (shape : Shape) (out : ℕ → Bool) (vid p q : ℕ) : Type 0 where
  pub here : CustomerPlan
  pub there : CustomerPlan
  pub planned_here : numbered plan.customers p ≡ Some here
  pub planned_there : numbered plan.customers q ≡ Some there
  pub up_here : out here.bridge ≡ false
  pub up_there : out there.bridge ≡ false
  pub joined : AreJoined plan shape vid here.bridge there.bridge

-- a customer port reaches itself, and those to which it is linked
abbrev pub CanReach : Plan → Shape → (ℕ → Bool) → ℕ → ℕ → ℕ → Type 0
CanReach plan shape out vid p q = (p ≡ q) ⊎ AreLinked plan shape out vid p q

-- two bridges have one mark if and only if active links join them
abbrev pub TellsJoined : Plan → Shape → ℕ → List ℕ → Type 0
TellsJoined plan shape vid marks =
    (a b : ℕ) → IsNumber a 32 → IsNumber b 32 → (mark_at marks a ≡ mark_at marks b) ↔ AreJoined plan shape vid a b
