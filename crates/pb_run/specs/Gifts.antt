-- What the workers of a plan are given: their numbers, and the numbers of their rings.
use Rattle.std.specs.Prelude.{◌≡◌, ℕ, ◌+◌, ◌*◌, ◌<◌, List, Some, length, map, slice_get, slice_index_or}
use Rattle.pb_lan.specs.declared.plan.Plan.{Plan}
use Rattle.pb_lan.specs.declared.plan.End.{End}
use Rattle.pb_lan.specs.declared.plan.LinkPlan.{LinkPlan}
use Rattle.pb_lan.specs.declared.plan.CustomerPlan.{CustomerPlan}
use Rattle.pb_ring.specs.declared.ends.Wiring.{Ghosts}
use Rattle.pb_workers.specs.declared.access.Access.{Access}
use Rattle.pb_workers.specs.declared.bridge.BridgeWorker.{BridgeWorker}
use Rattle.pb_workers.specs.declared.gift.AccessGift.{AccessGift}
use Rattle.pb_workers.specs.declared.gift.BridgeGift.{BridgeGift}
use Rattle.pb_workers.specs.declared.gift.LaneGift.{LaneGift}
use Rattle.pb_workers.specs.declared.lane.LaneWorker.{LaneWorker}
use Rattle.pb_run.specs.Wires.{ring_into, ring_out}

-- what the worker of a bridge is given
abbrev pub given_bridge : {X : Type 0} {W : Ghosts X} → BridgeWorker X W → BridgeGift
given_bridge w = record {
  worker = w.number;
  bridge = w.bridge.number;
  plan = w.bridge.plan;
  ins = map (λ i. i.number) w.ins.ends.items;
  outs = map (λ o. o.number) w.outs.ends.items;
}

pub record IsBridgeGift (plan : Plan) (number : ℕ) (gift : BridgeGift) : Type 0 where
  pub worker : gift.worker ≡ number
  pub bridge : gift.bridge ≡ number
  pub plans : gift.plan ≡ plan
  pub count : length gift.ins ≡ 16
  pub into : (q : ℕ) → q < 16 → slice_index_or gift.ins q 0 ≡ ring_into number (q + 1)
  pub out : (q : ℕ) → q < 16 → slice_index_or gift.outs q 0 ≡ ring_out number (q + 1)

-- what the workers of the plan's first bridges, this many, are given
pub record AreBridges (plan : Plan) (count : ℕ) (gifts : List BridgeGift) : Type 0 where
  pub counted : length gifts ≡ count
  pub each : (r : ℕ) (gift : BridgeGift) → slice_get gifts r ≡ Some gift → IsBridgeGift plan (r + 1) gift

-- what the worker of a lane over these rings is given
abbrev pub lane_over : ℕ → ℕ → ℕ → List ℕ → LaneGift
lane_over number from to losses = record { number = number; from = from; to = to; losses = losses }

abbrev pub given_lane : {X P : Type 0} {W : Ghosts X} → LaneWorker X P W → LaneGift
given_lane w = lane_over w.number w.from.number w.to.number w.lane.losses

abbrev pub lane_gift : ℕ → End → End → List ℕ → LaneGift
lane_gift number from to losses = lane_over number (ring_out from.bridge from.port) (ring_into to.bridge to.port) losses

-- what the workers of the lanes of the first links, this many, are given
pub record AreLanes (plan : Plan) (count : ℕ) (gifts : List LaneGift) : Type 0 where
  pub counted : length gifts ≡ 2 * count
  pub ab : (k : ℕ) (link : LinkPlan) → k < count → slice_get plan.links k ≡ Some link
      → slice_get gifts (2 * k) ≡ Some (lane_gift (2 * k + 1) link.a link.b link.lost_ab)
  pub ba : (k : ℕ) (link : LinkPlan) → k < count → slice_get plan.links k ≡ Some link
      → slice_get gifts (2 * k + 1) ≡ Some (lane_gift (2 * k + 2) link.b link.a link.lost_ba)

-- what a customer port is given, except for the port outside
abbrev pub given_access : {X : Type 0} {W : Ghosts X} → Access X W → AccessGift
given_access d = record { place = d.place.number; feed = d.feed.number; drain = d.drain.number }

abbrev pub access_gift : ℕ → CustomerPlan → AccessGift
access_gift number c = record { place = number; feed = ring_into c.bridge c.port; drain = ring_out c.bridge c.port }

-- what the first customer ports, this many, are given
pub record AreAccesses (plan : Plan) (count : ℕ) (gifts : List AccessGift) : Type 0 where
  pub counted : length gifts ≡ count
  pub each : (k : ℕ) (c : CustomerPlan) → k < count → slice_get plan.customers k ≡ Some c → slice_get gifts k ≡ Some (access_gift (k + 1) c)
