-- What waits between two places can be carried on there, or waits on the ring into a bridge.
use Rattle.std.proofs.Common.{◌≡◌, ◌⊎◌, inl, inr, ℕ, zero, suc, ◌<◌, ◌≤◌, List, [], ◌∷◌, refl, length, arith}
use Rattle.pb_lan.specs.Plans.{IsSound}
use Rattle.pb_lan.specs.declared.plan.CustomerPlan.{CustomerPlan}
use Rattle.pb_lan.specs.declared.plan.End.{End}
use Rattle.pb_lan.specs.declared.plan.Plan.{Plan}
use Rattle.pb_lan.specs.declared.record.Record.{Record}
use Rattle.pb_lan.specs.declared.step.Item.{Item}
use Rattle.pb_standstill.specs.Moves.{HasRoom, PortMove, LaneMove}
use Rattle.pb_standstill.specs.Moves.PortMove.{Feeds, Transmits as PortTransmits, Delivers}
use Rattle.pb_standstill.specs.Moves.LaneMove.{Transmits, Takes, Puts}
use Rattle.pb_standstill.specs.Waits.{HasSome, port_hand, ring_in, ring_out, lane_hand, ring_onto, ring_off, queue_at}

-- of two numbers the first is less, or it is not
less_or_not : (a b : ℕ) → (a < b) ⊎ (b ≤ a)
less_or_not zero zero = inr (omega arith)
less_or_not zero (suc b) = inl (omega arith)
less_or_not (suc a) zero = inr (omega arith)
less_or_not (suc a) (suc b) = by (less_or_not a b)
  where
    by : (a < b) ⊎ (b ≤ a) → (suc a < suc b) ⊎ (suc b ≤ suc a)
    by (inl h) = inl (omega (arith, h))
    by (inr h) = inr (omega (arith, h))

-- a list is empty, or it has something
pub empty_or_not : {X : Type 0} (xs : List X) → (xs ≡ []) ⊎ HasSome xs
empty_or_not [] = inl refl
empty_or_not (x ∷ xs) = inr (omega arith)

-- a ring has room, or something is on it
pub room_or_some : (plan : Plan) → IsSound plan → (ring : List Item) → HasRoom plan ring ⊎ HasSome ring
room_or_some plan sound ring = by (less_or_not (length ring) plan.ring)
  where
    by : (length ring < plan.ring) ⊎ (plan.ring ≤ length ring) → HasRoom plan ring ⊎ HasSome ring
    by (inl h) = inl h
    by (inr h) = let least = sound.limits.ring.0 in inr (omega (arith, h, least))

-- what waits in the hand of a lane can be put, or something is on the ring to the far bridge
pub hand_on : (plan : Plan) (rec : Record) → IsSound plan → (lane : ℕ) (from to : End) → HasSome (lane_hand rec lane)
    → LaneMove plan rec lane from to ⊎ HasSome (ring_off rec lane to)
hand_on plan rec sound lane from to some = by (room_or_some plan sound (ring_off rec lane to))
  where
    by : HasRoom plan (ring_off rec lane to) ⊎ HasSome (ring_off rec lane to)
        → LaneMove plan rec lane from to ⊎ HasSome (ring_off rec lane to)
    by (inl room) = inl (Puts (some, room))
    by (inr full) = inr full

-- what waits on the ring onto a lane can be taken, or the lane's hand holds something
pub onto_on : (plan : Plan) (rec : Record) → IsSound plan → (lane : ℕ) (from to : End)
    → HasSome (ring_onto rec lane from)
    → LaneMove plan rec lane from to ⊎ HasSome (ring_off rec lane to)
onto_on plan rec sound lane from to some = by (empty_or_not (lane_hand rec lane))
  where
    by : (lane_hand rec lane ≡ []) ⊎ HasSome (lane_hand rec lane)
        → LaneMove plan rec lane from to ⊎ HasSome (ring_off rec lane to)
    by (inl none) = inl (Takes (some, none))
    by (inr held) = hand_on plan rec sound lane from to held

-- what waits in the queue before a lane can be transmitted, or something is on the ring onto the lane
pub queue_on : (plan : Plan) (rec : Record) → IsSound plan → (lane : ℕ) (from to : End)
    → HasSome (queue_at plan rec from.bridge from.port)
    → LaneMove plan rec lane from to ⊎ HasSome (ring_off rec lane to)
queue_on plan rec sound lane from to some = by (room_or_some plan sound (ring_onto rec lane from))
  where
    by : HasRoom plan (ring_onto rec lane from) ⊎ HasSome (ring_onto rec lane from)
        → LaneMove plan rec lane from to ⊎ HasSome (ring_off rec lane to)
    by (inl room) = inl (Transmits (some, room))
    by (inr full) = onto_on plan rec sound lane from to full

-- what waits in the queue before a customer port can be transmitted, or a frame can be delivered
pub queue_out : (plan : Plan) (rec : Record) → IsSound plan → (number : ℕ) (c : CustomerPlan)
    → HasSome (queue_at plan rec c.bridge c.port)
    → PortMove plan rec number c
queue_out plan rec sound number c some = by (room_or_some plan sound (ring_out rec number c))
  where
    by : HasRoom plan (ring_out rec number c) ⊎ HasSome (ring_out rec number c) → PortMove plan rec number c
    by (inl room) = PortTransmits (some, room)
    by (inr full) = Delivers full

-- what waits in the hand of a customer port can be fed, or something is on the ring into the bridge
pub hand_in : (plan : Plan) (rec : Record) → IsSound plan → (number : ℕ) (c : CustomerPlan)
    → HasSome (port_hand rec number)
    → PortMove plan rec number c ⊎ HasSome (ring_in rec number c)
hand_in plan rec sound number c some = by (room_or_some plan sound (ring_in rec number c))
  where
    by : HasRoom plan (ring_in rec number c) ⊎ HasSome (ring_in rec number c)
        → PortMove plan rec number c ⊎ HasSome (ring_in rec number c)
    by (inl room) = inl (Feeds (some, room))
    by (inr full) = inr full
