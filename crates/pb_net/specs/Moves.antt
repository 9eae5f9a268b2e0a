-- Moves of an item from a place to a queue, or from a queue to a place.
use Rattle.std.specs.Prelude.{◌≡◌, ℕ, false, List, [], ◌∷◌, ◌++◌}
use Rattle.std.specs.declared.option.Option.{Option}
use Rattle.pb_frame.specs.declared.learnt.Learnt.{Learnt}
use Rattle.pb_lan.specs.BridgeLists.{Fits}
use Rattle.pb_lan.specs.PortLists.{polled, fed}
use Rattle.pb_relay.specs.Protocol.{spanning_tree}
use Rattle.pb_lan.specs.declared.step.Item.{Item}
use Rattle.pb_lan.specs.declared.step.Moved.{Moved}
use Rattle.pb_lan.specs.declared.step.Outcome.{Outcome}
use Rattle.pb_lan.specs.declared.step.Step.TheVariants.{Feed, Deliver, Receive, Transmit, Put}
use Rattle.pb_link.specs.Hands.{PlaceView}
use Rattle.pb_link.specs.Lanes.{LaneView, taking}
use Rattle.pb_relay.specs.Standing.{BridgeView}

-- the frame in hand moved to the back of the inbox
pub record HasFedInto (old : PlaceView) (inbox : List Item) (new : PlaceView) (inbox' : List Item) : Type 0 where
  pub item : Item
  pub held : fed old.steps ++ item ∷ [] ≡ polled old.steps
  pub steps : new.steps ≡ old.steps ++ Feed item ∷ []
  pub queued : inbox' ≡ inbox ++ item ∷ []

-- the front of the outbox was delivered
pub record HasDelivered (old : PlaceView) (outbox : List Item) (new : PlaceView) (outbox' : List Item) : Type 0 where
  pub item : Item
  pub steps : new.steps ≡ old.steps ++ Deliver item false ∷ []
  pub taken : outbox ≡ item ∷ outbox'

-- a step that failed left the bridge's steps and the queue unchanged
abbrev pub IsUnmoved : BridgeView → List Item → BridgeView → List Item → Type 0
IsUnmoved old queue new queue' = (new.steps ≡ old.steps) × (queue' ≡ queue)

-- the front of the inbox was received, lawfully
pub record HasReceivedFrom (old : BridgeView) (port : ℕ) (inbox : List Item) (new : BridgeView) (inbox' : List Item) : Type 0 where
  pub item : Item
  pub learnt : Option Learnt
  pub outcome : Outcome
  pub moved : Option Moved
  pub steps : new.steps ≡ old.steps ++ Receive port item learnt outcome moved ∷ []
  pub fits : Fits spanning_tree old.plan old.number old.steps (Receive port item learnt outcome moved)
  pub taken : inbox ≡ item ∷ inbox'

-- the next item of the port moved to the back of the outbox
pub record HasTransmittedTo (old : BridgeView) (port : ℕ) (outbox : List Item) (new : BridgeView) (outbox' : List Item) : Type 0 where
  pub item : Item
  pub steps : new.steps ≡ old.steps ++ Transmit port item ∷ []
  pub fits : Fits spanning_tree old.plan old.number old.steps (Transmit port item)
  pub queued : outbox' ≡ outbox ++ item ∷ []

-- the front of the outbox was taken by a lane
pub record HasTakenFrom (old : LaneView) (outbox : List Item) (new : LaneView) (outbox' : List Item) : Type 0 where
  pub item : Item
  pub steps : new.steps ≡ old.steps ++ taking old item ∷ []
  pub taken : outbox ≡ item ∷ outbox'

-- the item in a lane's hand moved to the back of the inbox
pub record HasPutInto (old : LaneView) (inbox : List Item) (new : LaneView) (inbox' : List Item) : Type 0 where
  pub item : Item
  pub steps : new.steps ≡ old.steps ++ Put item ∷ []
  pub queued : inbox' ≡ inbox ++ item ∷ []
