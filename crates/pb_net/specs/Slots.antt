-- The queues at the bridges' ports, by slot: sixteen slots to a bridge, one for each local port. Each slot has an inbox
-- of the items that were sent to the port, and an outbox of the items that the port transmitted.
use Rattle.std.specs.Prelude.{◌≡◌, ℕ, ◌+◌, ◌*◌, ◌/◌, ◌%◌, ◌<◌, List, [], Some, length, unwrap_or, slice_get, ◌==◌, if◌then◌else◌}
use Rattle.std.specs.Option.{option_map}
use Rattle.pb_lan.specs.Events.{begins_at, ends_at}
use Rattle.pb_lan.specs.Numbering.{numbered}
use Rattle.pb_lan.specs.Ports.{Port, port_at}
use Rattle.pb_lan.specs.Ports.Port.{Customer, Provider, Unused}
use Rattle.pb_lan.specs.declared.plan.Plan.{Plan}
use Rattle.pb_lan.specs.declared.plan.CustomerPlan.{CustomerPlan}
use Rattle.pb_lan.specs.declared.plan.LinkPlan.{LinkPlan}
use Rattle.pb_lan.specs.declared.step.Item.{Item}
use Rattle.pb_net.specs.declared.slots.PortUse.{PortUse}
use Rattle.pb_net.specs.declared.slots.PortUse.TheVariants.{ToCustomer, ToBridge, ToNobody}
use Rattle.pb_net.specs.declared.slots.LaneSlots.{LaneSlots}
use Rattle.pb_net.specs.declared.slots.Slots.{Slots}
use Rattle.pb_net.specs.declared.slots.Spot.{Spot}

-- the bridge and the local port of a slot
abbrev pub bridge_of : ℕ → ℕ
bridge_of slot = slot / 16 + 1

abbrev pub port_of : ℕ → ℕ
port_of slot = slot % 16 + 1

-- the slot is that of the bridge's port
pub record IsSlot (plan : Plan) (bridge port slot : ℕ) : Type 0 where
  pub of_bridge : bridge_of slot ≡ bridge
  pub of_port : port_of slot ≡ port
  pub within : slot < 16 * length plan.bridges

-- the items of the queue at this slot
abbrev pub items_at : List (List Item) → ℕ → List Item
items_at lists slot = unwrap_or (slice_get lists slot) []

-- the neighbour at a port
abbrev pub use_of : Port → PortUse
use_of (Customer c) = ToCustomer
use_of (Provider e) = ToBridge
use_of Unused = ToNobody

-- the number of a lane's link
abbrev pub link_of : ℕ → ℕ
link_of lane = (lane + 1) / 2

-- the items that a lane loses
abbrev pub losses_at : ℕ → LinkPlan → List ℕ
losses_at lane link = if lane % 2 == 1 then link.lost_ab else link.lost_ba

abbrev pub losses_of : Plan → ℕ → List ℕ
losses_of plan lane = unwrap_or (option_map (losses_at lane) (numbered plan.links (link_of lane))) []

-- the slots at which a lane begins and ends
pub record JoinsSlots (plan : Plan) (lane : ℕ) (slots : LaneSlots) : Type 0 where
  pub link : LinkPlan
  pub planned : numbered plan.links (link_of lane) ≡ Some link
  pub from : IsSlot plan (begins_at lane link).bridge (begins_at lane link).port slots.from
  pub to : IsSlot plan (ends_at lane link).bridge (ends_at lane link).port slots.to

-- the slot of a customer port
pub record MeetsSlot (plan : Plan) (number slot : ℕ) : Type 0 where
  pub customer : CustomerPlan
  pub planned : numbered plan.customers number ≡ Some customer
  pub at : IsSlot plan customer.bridge customer.port slot

-- the tables are those of the plan
pub record AreTables (plan : Plan) (slots : Slots) : Type 0 where
  pub use_count : length slots.uses.items ≡ 16 * length plan.bridges
  pub lane_count : length slots.lanes.items ≡ 2 * length plan.links
  pub customer_count : length slots.customers.items ≡ length plan.customers
  pub uses : (s : ℕ) (here : PortUse) → slice_get slots.uses.items s ≡ Some here → here ≡ use_of (port_at plan (bridge_of s) (port_of s))
  pub lanes : (r : ℕ) (at : LaneSlots) → slice_get slots.lanes.items r ≡ Some at → JoinsSlots plan (r + 1) at
  pub customers : (r s : ℕ) → slice_get slots.customers.items r ≡ Some s → MeetsSlot plan (r + 1) s

-- the index of a bridge, and the slot of its port
pub record IsBridgeSpot (plan : Plan) (bridge port : ℕ) (spot : Spot) : Type 0 where
  pub place : spot.place + 1 ≡ bridge
  pub there : spot.place < length plan.bridges
  pub slot : IsSlot plan bridge port spot.slot

-- the index of a customer port, and its slot
pub record IsCustomerSpot (plan : Plan) (number : ℕ) (spot : Spot) : Type 0 where
  pub place : spot.place + 1 ≡ number
  pub there : spot.place < length plan.customers
  pub slot : MeetsSlot plan number spot.slot

-- the index of a lane, and the slot at which it begins
pub record IsLaneStart (plan : Plan) (lane : ℕ) (spot : Spot) : Type 0 where
  pub place : spot.place + 1 ≡ lane
  pub there : spot.place < 2 * length plan.links
  pub link : LinkPlan
  pub planned : numbered plan.links (link_of lane) ≡ Some link
  pub from : IsSlot plan (begins_at lane link).bridge (begins_at lane link).port spot.slot

-- the index of a lane, and the slot at which it ends
pub record IsLaneEnd (plan : Plan) (lane : ℕ) (spot : Spot) : Type 0 where
  pub place : spot.place + 1 ≡ lane
  pub there : spot.place < 2 * length plan.links
  pub link : LinkPlan
  pub planned : numbered plan.links (link_of lane) ≡ Some link
  pub to : IsSlot plan (ends_at lane link).bridge (ends_at lane link).port spot.slot
