-- Changes of the tree while customers' frames are in the network.
use Rattle.std.specs.Prelude.{◌≡◌, ℕ, nat_lt, Bool, true, false, List, [], ◌∷◌, length, if◌then◌else◌}
use Rattle.std.specs.List.{list_any}
use Rattle.pb_lan.specs.Shapes.{moved_of}
use Rattle.pb_lan.specs.declared.step.Step.{Step}
use Rattle.pb_lan.specs.declared.step.Step.TheVariants.{Receive}
use Rattle.pb_history.specs.Draining.{is_marked}

-- a bridge received a customer's frame
abbrev pub is_receipt : Step → Bool
is_receipt (Receive port item learnt outcome moved) = is_marked item
is_receipt _ = false

-- a port changed its state
abbrev pub changes_state : Step → Bool
changes_state step = list_any (λ moved. nat_lt 0 (length moved.states)) (moved_of step)

-- the steps from the first customer's frame that the bridge received
abbrev pub since_first : List Step → List Step
since_first [] = []
since_first (step ∷ steps) = if is_receipt step then step ∷ steps else since_first steps

-- a port changed its state after the bridge had received a customer's frame
abbrev pub changes_late : List Step → Bool
changes_late steps = list_any changes_state (since_first steps)

-- what is recorded of the steps
pub record AreFollowed (items : List Step) (seen late : Bool) : Type 0 where
  pub receipts : seen ≡ list_any is_receipt items
  pub changes : late ≡ changes_late items
