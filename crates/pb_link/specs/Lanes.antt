-- What a lane keeps of its steps.
use Rattle.std.specs.Prelude.{◌≡◌, ℕ, Bool, true, false, Result, Ok, Err, List, [], ◌∷◌, ◌++◌, Some, length, slice_get, ◌==◌}
use Rattle.std.specs.List.{list_any}
use Rattle.std.specs.declared.option.Option.{Option}
use Rattle.pb_frame.specs.declared.memory.Memory.{Memory}
use Rattle.pb_lan.specs.Events.{is_all_fetched}
use Rattle.pb_lan.specs.LaneLists.{taken, carried, put, IsLawfulLane}
use Rattle.pb_lan.specs.declared.step.Item.{Item}
use Rattle.pb_lan.specs.declared.step.Step.{Step}
use Rattle.pb_lan.specs.declared.step.Step.TheVariants.{Take, Put}
use Rattle.pb_link.specs.Holdings.{IsHand}
use Rattle.pb_link.specs.declared.holding.Holding.{Holding}

-- what callers see of a lane: the numbers of the items that it loses, its steps, whether they are kept in memory, and
-- whether one more is reserved
pub record LaneView : Type 0 where
  pub losses : List ℕ
  pub steps : List Step
  pub is_kept : Bool
  pub is_reserved : Bool

-- a lane that has taken no step
abbrev pub at_start : List ℕ → Bool → LaneView
at_start losses is_kept = record { losses = losses; steps = []; is_kept = is_kept; is_reserved = false }

-- the lane after one more step, which uses up the reservation
abbrev pub with_step : LaneView → Step → LaneView
with_step lane step = record lane { steps = lane.steps ++ step ∷ []; is_reserved = false }

-- the step that takes an item: its number is the count of items taken before, and it is lost if that number is among
-- the losses
abbrev pub taking : LaneView → Item → Step
taking lane item = Take (length (taken lane.steps)) item (list_any (λ k. k == length (taken lane.steps)) lane.losses)

-- every item that was carried was put
abbrev pub is_hand_empty : List Step → Bool
is_hand_empty steps = is_all_fetched (carried steps) (put steps)

-- the item that was carried and is not yet put
abbrev pub in_hand : List Step → Option Item
in_hand steps = slice_get (carried steps) (length (put steps))

-- the item is the one in hand, and the step that puts it was appended
abbrev pub HasPut : LaneView → Item → LaneView → Type 0
HasPut old item new = (in_hand old.steps ≡ Some item) × (new ≡ with_step old (Put item))

-- the lane took the next item off the ring; or an item is in hand or none is known to be on the ring; or an allocation
-- failed
abbrev pub HasTaken : Result Bool Memory → LaneView → List Item → List Item → LaneView → List Item → Type 0
HasTaken (Ok true) old received known new received' =
    (item : Item) × (is_hand_empty old.steps ≡ true) × (received' ≡ received ++ item ∷ []) × (new ≡ with_step old (taking old item))
HasTaken (Ok false) old received known new received' =
    (is_hand_empty old.steps ≡ true → known ≡ []) × (received' ≡ received) × (new ≡ old)
HasTaken (Err e) old received known new received' = (is_hand_empty old.steps ≡ true) × (received' ≡ received) × (new ≡ old)

-- the lane put the item in hand onto the ring; or none is in hand or no slot of the ring is known to be free; or an
-- allocation failed
abbrev pub HasSent : Result Bool Memory → LaneView → List Item → ℕ → LaneView → List Item → Type 0
HasSent (Ok true) old sent free new sent' = (item : Item) × HasPut old item new × (sent' ≡ sent ++ item ∷ [])
HasSent (Ok false) old sent free new sent' = (is_hand_empty old.steps ≡ false → free ≡ 0) × (sent' ≡ sent) × (new ≡ old)
HasSent (Err e) old sent free new sent' = (is_hand_empty old.steps ≡ false) × (sent' ≡ sent) × (new ≡ old)

-- the steps are lawful, and the hand and the count of items follow from them
pub record IsLaneKept (losses : List ℕ) (steps : List Step) (is_kept : Bool) (hand : Holding) (count : ℕ) : Type 0 where
  pub lawful : IsLawfulLane losses steps
  pub held : IsHand steps is_kept (put steps) (carried steps) hand
  pub counted : count ≡ length (taken steps)
