-- The steps that places can take at the end of a record of a lossless run. In such a run a bridge receives an item only
-- if the queue of each port to which it relays the item has a place. No ring holds more items than the plan's number.
use Rattle.std.specs.Prelude.{◌≡◌, ℕ, ◌<◌, Bool, true, List, [], ◌∷◌, Some, length}
use Rattle.pb_lan.specs.Numbering.{numbered}
use Rattle.pb_lan.specs.Queues.{capacity_of}
use Rattle.pb_lan.specs.Records.{steps_of}
use Rattle.pb_lan.specs.declared.plan.Plan.{Plan}
use Rattle.pb_lan.specs.declared.plan.End.{End}
use Rattle.pb_lan.specs.declared.plan.CustomerPlan.{CustomerPlan}
use Rattle.pb_lan.specs.declared.record.Record.{Record}
use Rattle.pb_lan.specs.declared.step.Item.{Item}
use Rattle.pb_relay.specs.Room.{has_room_for}
use Rattle.pb_standstill.specs.Waits.{IsLane, HasSome, port_hand, ring_in, ring_out, lane_hand, ring_onto, ring_off}
use Rattle.pb_standstill.specs.Waits.{queue_at}

-- the ring takes one more item
abbrev pub HasRoom : Plan → List Item → Type 0
HasRoom plan ring = length ring < plan.ring

-- the queue of each port to which the bridge relays the item has a place
abbrev pub are_places_free : Plan → Record → ℕ → ℕ → Item → Bool
are_places_free plan rec bridge port item =
    has_room_for plan bridge (steps_of rec.bridges bridge) (capacity_of plan bridge) port item

-- a bridge can receive the first item of the ring into a port
pub record CanReceive (plan : Plan) (rec : Record) (bridge port : ℕ) (ring : List Item) : Type 0 where
  pub item : Item
  pub later : List Item
  pub first : ring ≡ item ∷ later
  pub room : are_places_free plan rec bridge port item ≡ true

-- a bridge can transmit an item of a port's queue: one waits, and the ring out of the port takes one more
abbrev pub CanTransmit : Plan → Record → ℕ → ℕ → List Item → Type 0
CanTransmit plan rec bridge port ring = HasSome (queue_at plan rec bridge port) × HasRoom plan ring

-- a customer port can put the frame in its hand on the ring to its bridge, which takes one more
abbrev pub CanFeed : Plan → Record → ℕ → CustomerPlan → Type 0
CanFeed plan rec number c = HasSome (port_hand rec number) × HasRoom plan (ring_in rec number c)

-- a customer port can deliver a frame: one is on its ring, and the customer's device takes what it is offered
abbrev pub CanDeliver : Record → ℕ → CustomerPlan → Type 0
CanDeliver rec number c = HasSome (ring_out rec number c)

-- a lane can take an item: one is on its ring, and its hand is empty
abbrev pub CanTake : Record → ℕ → End → Type 0
CanTake rec lane from = HasSome (ring_onto rec lane from) × (lane_hand rec lane ≡ [])

-- a lane can put the item in its hand on the ring to the far bridge, which takes one more
abbrev pub CanPut : Plan → Record → ℕ → End → Type 0
CanPut plan rec lane to = HasSome (lane_hand rec lane) × HasRoom plan (ring_off rec lane to)

-- a step of a customer port, or of its bridge at that port
pub data PortMove (plan : Plan) (rec : Record) (number : ℕ) (c : CustomerPlan) : Type 0 where
  Feeds : CanFeed plan rec number c → PortMove plan rec number c
  Receives : CanReceive plan rec c.bridge c.port (ring_in rec number c) → PortMove plan rec number c
  Transmits : CanTransmit plan rec c.bridge c.port (ring_out rec number c) → PortMove plan rec number c
  Delivers : CanDeliver rec number c → PortMove plan rec number c

-- a step of a lane, or of one of the bridges at its ends
pub data LaneMove (plan : Plan) (rec : Record) (lane : ℕ) (from to : End) : Type 0 where
  Transmits : CanTransmit plan rec from.bridge from.port (ring_onto rec lane from) → LaneMove plan rec lane from to
  Takes : CanTake rec lane from → LaneMove plan rec lane from to
  Puts : CanPut plan rec lane to → LaneMove plan rec lane from to
  Receives : CanReceive plan rec to.bridge to.port (ring_off rec lane to) → LaneMove plan rec lane from to

-- some place can take a step that carries an item on
pub data CanMove (plan : Plan) (rec : Record) : Type 0 where
  AtPort : (number : ℕ) (c : CustomerPlan) → numbered plan.customers number ≡ Some c → PortMove plan rec number c
      → CanMove plan rec
  OnLane : (lane : ℕ) (from to : End) → IsLane plan lane from to → LaneMove plan rec lane from to → CanMove plan rec

-- no place can take a step that carries an item on
abbrev pub StandsStill : Plan → Record → Type 0
StandsStill plan rec = CanMove plan rec → ⊥
