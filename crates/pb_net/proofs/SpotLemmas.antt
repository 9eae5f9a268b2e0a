-- The entries of a network's tables for its places.
use Rattle.std.proofs.Common.{◌≡◌, ℕ, suc, ◌+◌, ◌-◌, ◌*◌, ◌<◌, ◌⊎◌, inl, inr, length, get_or, refl, subst, arith, sym}
use Rattle.std.proofs.Common.{zero, true, false, ap, ◌∙◌}
use Rattle.pb_frame.proofs.Things.{here_is}
use Rattle.pb_lan.proofs.Numbers.{numbered-All}
use Rattle.pb_lan.proofs.PortsInPlans.{customer_at, end_at, sound-end}
use Rattle.pb_lan.specs.Plans.{IsSound, IsSoundCustomer, IsNumber}
use Rattle.pb_lan.specs.Ports.{Port, port_at, is_used}
use Rattle.pb_lan.specs.Ports.Port.{Customer, Provider, Unused}
use Rattle.pb_lan.specs.declared.plan.End.{End}
use Rattle.pb_lan.specs.declared.plan.Plan.{Plan}
use Rattle.pb_net.specs.Answers.{NetView}
use Rattle.pb_net.specs.Slots.{IsSlot, JoinsSlots, IsBridgeSpot}
use Rattle.pb_net.specs.declared.net.Net.TheInside.{Inside}
use Rattle.pb_net.specs.declared.slots.LaneSlots.{LaneSlots}
use Rattle.pb_net.proofs.KnownSpots.{Keeps, shown}

-- the slots of a lane
pub lane_there : {net : NetView} (s : Inside) (lane r : ℕ) (at : LaneSlots) → Keeps s → shown s ≡ net → r + 1 ≡ lane
    → r < length s.lanes.items → at ≡ get_or s.slots.lanes.items r at
    → (r < 2 * length net.plan.links) × JoinsSlots net.plan lane at
lane_there s lane r at keeps view number within value =
    let planned : r < 2 * length s.plan.links = omega (arith, keeps.1.lane_count, within) in
    let there = here_is s.slots.lanes.items r at (omega (arith, keeps.3.lane_count, planned)) value in
    subst (λ (v : NetView). (r < 2 * length v.plan.links) × JoinsSlots v.plan lane at) view
    (planned, subst (λ n. JoinsSlots s.plan n at) number (keeps.3.lanes r at there))

-- the slot of a bridge's port
abbrev pub slot_at : ℕ → ℕ → ℕ
slot_at bridge port = 16 * (bridge - 1) + (port - 1)

abbrev pub slot_of : End → ℕ
slot_of e = slot_at e.bridge e.port

pub slot_there : (plan : Plan) (b q : ℕ) → IsNumber b (length plan.bridges) → IsNumber q 16
    → IsSlot plan b q (slot_at b q)
slot_there plan b q of_bridge of_port =
    record { of_bridge = omega arith; of_port = omega arith; within = omega arith }

-- the spot of a bridge's first port
pub first_spot : (plan : Plan) (bridge r : ℕ) → r + 1 ≡ bridge → r < length plan.bridges
    → IsBridgeSpot plan bridge 1 (record { place = r; slot = 16 * r })
first_spot plan bridge r number there = record {
  place = number;
  there = there;
  slot = record { of_bridge = omega (arith, number); of_port = omega arith; within = omega (arith, there) };
}

-- a port with numbers out of range is not used
used_in_range : (plan : Plan) → IsSound plan → (b q : ℕ) → (IsNumber b (length plan.bridges) → IsNumber q 16 → ⊥)
    → port_at plan b q ≡ Unused
used_in_range plan sound b q out = by (port_at plan b q) refl
  where
    by : (p : Port) → port_at plan b q ≡ p → p ≡ Unused
    by (Customer c) h =
        let at = customer_at plan b q c h in
        let is = numbered-All (IsSoundCustomer plan) plan.customers at.0 c at.1 sound.customers in
        absurd (out (subst (λ n. IsNumber n (length plan.bridges)) at.2 is.bridge)
        (subst (λ n. IsNumber n 16) at.3 is.port))
    by (Provider e) h =
        let at = end_at plan b q e h in
        let is = sound-end plan sound (suc at.0.0) at.0.1 e at.0.2 at.0.3 in
        absurd (out (subst (λ n. IsNumber n (length plan.bridges)) at.1 is.bridge)
        (subst (λ n. IsNumber n 16) at.2 is.port))
    by Unused h = refl

pub out_of_range : (plan : Plan) → IsSound plan → (b q : ℕ) → (b ≡ 0) ⊎ (length plan.bridges < b)
    → port_at plan b q ≡ Unused
out_of_range plan sound b q (inl z) = used_in_range plan sound b q (λ n _. omega (arith, z, n.0))
out_of_range plan sound b q (inr past) = used_in_range plan sound b q (λ n _. omega (arith, past, n.1))

pub port_out_of_range : (plan : Plan) → IsSound plan → (b q : ℕ) → (q ≡ 0) ⊎ (16 < q) → port_at plan b q ≡ Unused
port_out_of_range plan sound b q (inl z) = used_in_range plan sound b q (λ _ n. omega (arith, z, n.0))
port_out_of_range plan sound b q (inr past) = used_in_range plan sound b q (λ _ n. omega (arith, past, n.1))

-- a number is in the range from 1 to `highest`, or below or above it
in_range : (n highest : ℕ) → ((n ≡ 0) ⊎ (highest < n)) ⊎ IsNumber n highest
in_range zero highest = inl (inl refl)
in_range (suc n) zero = inl (inr (omega arith))
in_range (suc n) (suc highest) = elim (in_range n highest) [
  | inl out ↦ elim out [ inl e ↦ inr (omega arith, omega (arith, e)) | inr h ↦ inl (inr (omega arith)) ]
  | inr h ↦ inr (omega arith, omega (arith, h.1))
]

unused_is_not : (p : Port) → p ≡ Unused → is_used p ≡ true → ⊥
unused_is_not p e u = let f : false ≡ true = sym (ap is_used e) ∙ u in cc

-- a port that a sound plan uses is at one of its bridges, and is one of 16 there
pub bridge_there : (plan : Plan) → IsSound plan → (b q : ℕ) → is_used (port_at plan b q) ≡ true
    → IsNumber b (length plan.bridges)
bridge_there plan sound b q u = elim (in_range b (length plan.bridges)) [
  | inl out ↦ absurd (unused_is_not (port_at plan b q) (out_of_range plan sound b q out) u)
  | inr h ↦ h
]

pub port_there : (plan : Plan) → IsSound plan → (b q : ℕ) → is_used (port_at plan b q) ≡ true → IsNumber q 16
port_there plan sound b q u = elim (in_range q 16) [
  | inl out ↦ absurd (unused_is_not (port_at plan b q) (port_out_of_range plan sound b q out) u)
  | inr h ↦ h
]
