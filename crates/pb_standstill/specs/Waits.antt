-- What waits at the end of a record: in hands, on the rings between places, and in queues.
use Rattle.std.specs.Prelude.{◌≡◌, ℕ, ◌<◌, ◌⊎◌, List, [], Some, length}
use Rattle.pb_lan.specs.Counts.{pending}
use Rattle.pb_lan.specs.LaneLists.{taken, carried, put}
use Rattle.pb_lan.specs.Numbering.{numbered}
use Rattle.pb_lan.specs.PortLists.{polled, fed, delivered}
use Rattle.pb_lan.specs.Queues.{Waiting, waiting}
use Rattle.pb_lan.specs.Records.{steps_of, received, transmitted, lane_ab, lane_ba}
use Rattle.pb_lan.specs.declared.plan.Plan.{Plan}
use Rattle.pb_lan.specs.declared.plan.End.{End}
use Rattle.pb_lan.specs.declared.plan.LinkPlan.{LinkPlan}
use Rattle.pb_lan.specs.declared.plan.CustomerPlan.{CustomerPlan}
use Rattle.pb_lan.specs.declared.record.Record.{Record}
use Rattle.pb_lan.specs.declared.step.Item.{Item}

-- the lane of this number leads from one end of a link of the plan to the other
pub record IsLane (plan : Plan) (lane : ℕ) (from to : End) : Type 0 where
  pub number : ℕ
  pub link : LinkPlan
  pub numbered_so : numbered plan.links number ≡ Some link
  pub leads : ((lane ≡ lane_ab number) × (link.a ≡ from) × (link.b ≡ to))
      ⊎ ((lane ≡ lane_ba number) × (link.b ≡ from) × (link.a ≡ to))

-- the frame in the hand of a customer port
abbrev pub port_hand : Record → ℕ → List Item
port_hand rec number = pending (polled (steps_of rec.customers number)) (fed (steps_of rec.customers number))

-- the items on the ring from a customer port into its bridge
abbrev pub ring_in : Record → ℕ → CustomerPlan → List Item
ring_in rec number c = pending (fed (steps_of rec.customers number)) (received c.port (steps_of rec.bridges c.bridge))

-- the items on the ring from a bridge out to a customer port
abbrev pub ring_out : Record → ℕ → CustomerPlan → List Item
ring_out rec number c =
    pending (transmitted c.port (steps_of rec.bridges c.bridge)) (delivered (steps_of rec.customers number))

-- the item in the hand of a lane
abbrev pub lane_hand : Record → ℕ → List Item
lane_hand rec lane = pending (carried (steps_of rec.lanes lane)) (put (steps_of rec.lanes lane))

-- the items on the ring from a bridge onto a lane
abbrev pub ring_onto : Record → ℕ → End → List Item
ring_onto rec lane from =
    pending (transmitted from.port (steps_of rec.bridges from.bridge)) (taken (steps_of rec.lanes lane))

-- the items on the ring from a lane off to the far bridge
abbrev pub ring_off : Record → ℕ → End → List Item
ring_off rec lane to = pending (put (steps_of rec.lanes lane)) (received to.port (steps_of rec.bridges to.bridge))

-- the items that wait in the queue of a bridge's port
abbrev pub queue_at : Plan → Record → ℕ → ℕ → List Waiting
queue_at plan rec bridge port = waiting plan bridge port (steps_of rec.bridges bridge)

-- something is in the list
abbrev pub HasSome : {X : Type 0} → List X → Type 0
HasSome xs = 0 < length xs

-- nothing waits in the hand of a customer port, nor between the port and its bridge
pub record IsPortEmpty (rec : Record) (number : ℕ) (c : CustomerPlan) : Type 0 where
  pub hand : port_hand rec number ≡ []
  pub ring_in : ring_in rec number c ≡ []
  pub ring_out : ring_out rec number c ≡ []

-- nothing waits before a lane, in its hand or after it
pub record IsLaneEmpty (rec : Record) (lane : ℕ) (from to : End) : Type 0 where
  pub ring_onto : ring_onto rec lane from ≡ []
  pub hand : lane_hand rec lane ≡ []
  pub ring_off : ring_off rec lane to ≡ []

-- all queues, rings and hands are empty
pub record NothingWaits (plan : Plan) (rec : Record) : Type 0 where
  pub queues : (bridge port : ℕ) → queue_at plan rec bridge port ≡ []
  pub ports : (number : ℕ) (c : CustomerPlan) → numbered plan.customers number ≡ Some c → IsPortEmpty rec number c
  pub lanes : (lane : ℕ) (from to : End) → IsLane plan lane from to → IsLaneEmpty rec lane from to
