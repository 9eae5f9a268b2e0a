-- The parts of a network at its start.
use Rattle.std.specs.Prelude.{◌≡◌, ℕ, ◌+◌, Bool, List, [], Some, length, slice_get}
use Rattle.std.specs.declared.collections.VecDeque.{VecDeque}
use Rattle.std.specs.Global.{Global}
use Rattle.pb_lan.specs.declared.plan.Plan.{Plan}
use Rattle.pb_lan.specs.declared.step.Item.{Item}
use Rattle.pb_link.specs.Hands.{PlaceView, at_start as place_at_start}
use Rattle.pb_link.specs.Lanes.{LaneView, at_start as lane_at_start}
use Rattle.pb_net.specs.Slots.{losses_of, bridge_of, port_of, use_of, JoinsSlots, MeetsSlot}
use Rattle.pb_net.specs.declared.slots.PortUse.{PortUse}
use Rattle.pb_net.specs.declared.slots.LaneSlots.{LaneSlots}
use Rattle.pb_lan.specs.Ports.{port_at}
use Rattle.pb_relay.specs.Standing.{BridgeView, at_start}

abbrev pub fresh_bridge : Plan → Bool → ℕ → BridgeView
fresh_bridge plan is_kept number = at_start plan number is_kept

abbrev pub fresh_customer : Bool → ℕ → PlaceView
fresh_customer is_kept number = place_at_start number is_kept

abbrev pub fresh_lane : Bool → List ℕ → LaneView
fresh_lane is_kept losses = lane_at_start losses is_kept

-- the first bridges of the plan, this many, without steps, which keep or count those that they take
pub record AreFreshBridges (plan : Plan) (is_kept : Bool) (count : ℕ) (bridges : List BridgeView) : Type 0 where
  pub counted : length bridges ≡ count
  pub fresh : (r : ℕ) (b : BridgeView) → slice_get bridges r ≡ Some b → b ≡ fresh_bridge plan is_kept (r + 1)

pub record AreFreshLanes (plan : Plan) (is_kept : Bool) (count : ℕ) (lanes : List LaneView) : Type 0 where
  pub counted : length lanes ≡ count
  pub fresh : (r : ℕ) (l : LaneView) → slice_get lanes r ≡ Some l → l ≡ fresh_lane is_kept (losses_of plan (r + 1))

pub record AreFreshCustomers (is_kept : Bool) (count : ℕ) (customers : List PlaceView) : Type 0 where
  pub counted : length customers ≡ count
  pub fresh : (r : ℕ) (p : PlaceView) → slice_get customers r ≡ Some p → p ≡ fresh_customer is_kept (r + 1)

pub record AreEmptyBoxes (count : ℕ) (boxes : List (VecDeque Item Global)) : Type 0 where
  pub counted : length boxes ≡ count
  pub empty : (r : ℕ) (q : VecDeque Item Global) → slice_get boxes r ≡ Some q → q.items ≡ []

-- the neighbours at the first slots, this many
pub record AreUses (plan : Plan) (count : ℕ) (uses : List PortUse) : Type 0 where
  pub counted : length uses ≡ count
  pub told : (s : ℕ) (here : PortUse) → slice_get uses s ≡ Some here → here ≡ use_of (port_at plan (bridge_of s) (port_of s))

-- the slots of the first lanes, this many
pub record AreLaneSlots (plan : Plan) (count : ℕ) (slots : List LaneSlots) : Type 0 where
  pub counted : length slots ≡ count
  pub joined : (r : ℕ) (at : LaneSlots) → slice_get slots r ≡ Some at → JoinsSlots plan (r + 1) at

-- the slots of the first customer ports, this many
pub record AreCustomerSlots (plan : Plan) (count : ℕ) (slots : List ℕ) : Type 0 where
  pub counted : length slots ≡ count
  pub met : (r s : ℕ) → slice_get slots r ≡ Some s → MeetsSlot plan (r + 1) s
