-- What a customer port keeps of its steps.
use Rattle.std.specs.Prelude.{◌≡◌, ℕ, Bool, false, List, [], ◌∷◌, ◌++◌, Some, length}
use Rattle.pb_lan.specs.PortLists.{polled, fed, IsLawfulPort}
use Rattle.pb_lan.specs.declared.step.Item.{Item}
use Rattle.pb_lan.specs.declared.step.Step.{Step}
use Rattle.pb_lan.specs.declared.step.Step.TheVariants.{Feed}
use Rattle.pb_link.specs.Holdings.{IsHand}
use Rattle.pb_link.specs.declared.holding.Holding.{Holding}

-- what callers see of a customer port: its number, its steps, whether they are kept in memory, and whether one more is
-- reserved
pub record PlaceView : Type 0 where
  pub number : ℕ
  pub steps : List Step
  pub is_kept : Bool
  pub is_reserved : Bool

-- a customer port that has taken no step
abbrev pub at_start : ℕ → Bool → PlaceView
at_start number is_kept = record { number = number; steps = []; is_kept = is_kept; is_reserved = false }

-- the place after one more step, which uses up the reservation
abbrev pub with_step : PlaceView → Step → PlaceView
with_step place step = record place { steps = place.steps ++ step ∷ []; is_reserved = false }

-- the item of the next polled frame
abbrev pub arrival : PlaceView → List ℕ → Item
arrival place frame = record { mark = Some (record { port = place.number; number = length (polled place.steps) }); hops = 0; wire = frame }

-- the item is the one in hand
abbrev pub IsInHand : List Step → Item → Type 0
IsInHand steps item = fed steps ++ item ∷ [] ≡ polled steps

-- the item is the one in hand, and the step that feeds it was appended
abbrev pub HasFed : PlaceView → Item → PlaceView → Type 0
HasFed old item new = IsInHand old.steps item × (new ≡ with_step old (Feed item))

-- the steps are lawful, and the hand and the count of polls follow from them
pub record IsPortKept (number : ℕ) (steps : List Step) (is_kept : Bool) (hand : Holding) (polls : ℕ) : Type 0 where
  pub lawful : IsLawfulPort number steps
  pub held : IsHand steps is_kept (fed steps) (polled steps) hand
  pub count : polls ≡ length (polled steps)
