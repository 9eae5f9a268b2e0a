-- The invariant of a network.
use Rattle.std.specs.Prelude.{◌≡◌, ℕ, ◌+◌, ◌*◌, Bool, List, ◌++◌, Some, map, length, slice_get}
use Rattle.std.specs.List.{AllByRecursion}
use Rattle.pb_lan.specs.BridgeLists.{IsLawfulBridge}
use Rattle.pb_lan.specs.Events.{sent_to, fetched_from}
use Rattle.pb_lan.specs.LaneLists.{IsLawfulLane}
use Rattle.pb_lan.specs.Plans.{IsSound}
use Rattle.pb_lan.specs.PortLists.{IsLawfulPort}
use Rattle.pb_lan.specs.Records.{steps_of, received, transmitted}
use Rattle.pb_relay.specs.Protocol.{spanning_tree}
use Rattle.pb_lan.specs.declared.plan.Plan.{Plan}
use Rattle.pb_lan.specs.declared.record.Record.{Record}
use Rattle.pb_lan.specs.declared.step.Item.{Item}
use Rattle.pb_link.specs.Hands.{PlaceView}
use Rattle.pb_link.specs.Lanes.{LaneView}
use Rattle.pb_net.specs.Slots.{bridge_of, port_of, items_at, losses_of}
use Rattle.pb_relay.specs.Standing.{BridgeView}

-- the record of these bridges, lanes and customer ports
abbrev pub record_of : List BridgeView → List LaneView → List PlaceView → Record
record_of bridges lanes customers = record { bridges = map (λ b. b.steps) bridges; lanes = map (λ l. l.steps) lanes; customers = map (λ p. p.steps) customers }

-- the plan is sound
pub record IsSoundPlan (plan : Plan) : Type 0 where
  pub sound : IsSound plan

-- the places are those of the plan, in its order, and all keep their steps or all only count them
pub record ArePlaced (plan : Plan) (is_kept : Bool) (bridges : List BridgeView) (lanes : List LaneView) (customers : List PlaceView) : Type 0 where
  pub bridge_count : length bridges ≡ length plan.bridges
  pub lane_count : length lanes ≡ 2 * length plan.links
  pub customer_count : length customers ≡ length plan.customers
  pub planned : (r : ℕ) (b : BridgeView) → slice_get bridges r ≡ Some b → b.plan ≡ plan
  pub bridge_numbers : (r : ℕ) (b : BridgeView) → slice_get bridges r ≡ Some b → b.number ≡ r + 1
  pub kept_bridges : AllByRecursion (λ b. b.is_kept ≡ is_kept) bridges
  pub kept_lanes : AllByRecursion (λ l. l.is_kept ≡ is_kept) lanes
  pub kept_customers : AllByRecursion (λ p. p.is_kept ≡ is_kept) customers
  pub lane_losses : (r : ℕ) (l : LaneView) → slice_get lanes r ≡ Some l → l.losses ≡ losses_of plan (r + 1)
  pub customer_numbers : (r : ℕ) (p : PlaceView) → slice_get customers r ≡ Some p → p.number ≡ r + 1

-- every list is lawful, and what was sent to a port is what was received there, followed by the items of its queue
pub record IsKept (plan : Plan) (rec : Record) (inboxes outboxes : List (List Item)) : Type 0 where
  pub bridge_count : length rec.bridges ≡ length plan.bridges
  pub lane_count : length rec.lanes ≡ 2 * length plan.links
  pub customer_count : length rec.customers ≡ length plan.customers
  pub inbox_count : length inboxes ≡ 16 * length plan.bridges
  pub outbox_count : length outboxes ≡ 16 * length plan.bridges
  pub bridges : (number : ℕ) → IsLawfulBridge spanning_tree plan number (steps_of rec.bridges number)
  pub lanes : (number : ℕ) → IsLawfulLane (losses_of plan number) (steps_of rec.lanes number)
  pub ports : (number : ℕ) → IsLawfulPort number (steps_of rec.customers number)
  pub into : (s : ℕ) → received (port_of s) (steps_of rec.bridges (bridge_of s)) ++ items_at inboxes s ≡ sent_to plan rec (bridge_of s) (port_of s)
  pub out : (s : ℕ) → fetched_from plan rec (bridge_of s) (port_of s) ++ items_at outboxes s ≡ transmitted (port_of s) (steps_of rec.bridges (bridge_of s))

-- the numbers of the plan that the network uses
pub record HasNumbers (plan : Plan) (limit ring : ℕ) : Type 0 where
  pub steps : limit ≡ plan.steps
  pub places : ring ≡ plan.ring
