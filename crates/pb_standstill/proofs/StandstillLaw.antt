-- The law of no standstill.
use Rattle.std.proofs.Common.{◌≡◌, ◌⊎◌, inl, inr, ℕ, Some, [], refl, sym}
use Rattle.std.proofs.Common.{subst, arith}
use Rattle.pb_lan.proofs.Numbers.{numbered-All}
use Rattle.pb_lan.proofs.PortsInPlans.{customer_at, end_at, end-of-far, sound-end}
use Rattle.pb_lan.specs.Forests.{ShowsAll}
use Rattle.pb_lan.specs.LastShapes.{last_shape}
use Rattle.pb_lan.specs.Numbering.{numbered}
use Rattle.pb_lan.specs.Plans.{IsSound, IsSoundCustomer, IsSoundEnd}
use Rattle.pb_lan.specs.Ports.{Port, port_at}
use Rattle.pb_lan.specs.Ports.Port.{Customer, Provider, Unused}
use Rattle.pb_lan.specs.Queues.{Waiting}
use Rattle.pb_lan.specs.Records.{IsLawfulRecord, lane_ab, lane_ba}
use Rattle.pb_lan.specs.declared.plan.CustomerPlan.{CustomerPlan}
use Rattle.pb_lan.specs.declared.plan.End.{End}
use Rattle.pb_lan.specs.declared.plan.LinkPlan.{LinkPlan}
use Rattle.pb_lan.specs.declared.plan.Plan.{Plan}
use Rattle.pb_lan.specs.declared.record.Record.{Record}
use Rattle.pb_lan.specs.declared.shape.Rooted.{Rooted}
use Rattle.pb_relay.specs.Protocol.{spanning_tree}
use Rattle.pb_standstill.proofs.Choosing.{both, each_or, empty_or, then_or}
use Rattle.pb_standstill.proofs.Meetings.{hand_in, hand_on, onto_on, queue_on, queue_out}
use Rattle.pb_standstill.proofs.Standstill.{ends_of_lane, lane_from, ring_moves}
use Rattle.pb_standstill.proofs.UnusedPorts.{unused_empty}
use Rattle.pb_standstill.specs.Laws.{NoStandstill, NothingWaitsOrMoves}
use Rattle.pb_standstill.specs.Moves.{CanMove, LaneMove, PortMove}
use Rattle.pb_standstill.specs.Moves.CanMove.{AtPort, OnLane}
use Rattle.pb_standstill.specs.Moves.LaneMove.{Receives}
use Rattle.pb_standstill.specs.Moves.PortMove.{Delivers, Receives as PortReceives}
use Rattle.pb_standstill.specs.Waits.{HasSome, IsLane, IsLaneEmpty, IsPortEmpty, NothingWaits, lane_hand, port_hand}
use Rattle.pb_standstill.specs.Waits.{queue_at, ring_in, ring_off, ring_onto, ring_out}

-- what waits on the ring into a bridge leads to a step
off_moves : (plan : Plan) (rec : Record) (rooted : Rooted) → IsSound plan → ShowsAll plan (last_shape plan rec) rooted
    → (lane : ℕ) (from to : End) → IsLane plan lane from to
    → LaneMove plan rec lane from to ⊎ HasSome (ring_off rec lane to) → CanMove plan rec
off_moves plan rec rooted sound shows lane from to l (inl move) = OnLane lane from to l move
off_moves plan rec rooted sound shows lane from to l (inr some) =
    let e : IsSoundEnd plan to = sound-end plan sound l.number l.link to l.numbered_so
    (end-of-far l.link from to (ends_of_lane l)) in
    ring_moves plan rec rooted sound shows to.bridge to.port e.bridge (ring_off rec lane to) some
    (λ can. OnLane lane from to l (Receives can))

in_moves : (plan : Plan) (rec : Record) (rooted : Rooted) → IsSound plan → ShowsAll plan (last_shape plan rec) rooted
    → (number : ℕ) (c : CustomerPlan) → numbered plan.customers number ≡ Some c
    → PortMove plan rec number c ⊎ HasSome (ring_in rec number c) → CanMove plan rec
in_moves plan rec rooted sound shows number c at (inl move) = AtPort number c at move
in_moves plan rec rooted sound shows number c at (inr some) =
    let s = numbered-All (IsSoundCustomer plan) plan.customers number c at sound.customers in
    ring_moves plan rec rooted sound shows c.bridge c.port s.bridge (ring_in rec number c) some
    (λ can. AtPort number c at (PortReceives can))

-- what waits at a port that is used leads to a step
queue_moves : (plan : Plan) (rec : Record) (rooted : Rooted) → IsSound plan
    → ShowsAll plan (last_shape plan rec) rooted → IsLawfulRecord spanning_tree plan rec → (bridge port : ℕ)
    → HasSome (queue_at plan rec bridge port) → CanMove plan rec
queue_moves plan rec rooted sound shows lawful bridge port some = by (port_at plan bridge port) refl
  where
    at : (b p : ℕ) → b ≡ bridge → p ≡ port → HasSome (queue_at plan rec b p)
    at b p e f =
        subst (λ x. HasSome (queue_at plan rec x p)) (sym e)
        (subst (λ y. HasSome (queue_at plan rec bridge y)) (sym f) some)

    by : (p : Port) → port_at plan bridge port ≡ p → CanMove plan rec
    by (Customer c) e =
        let there = customer_at plan bridge port c e in
        AtPort there.0 c there.1 (queue_out plan rec sound there.0 c (at c.bridge c.port there.2 there.3))
    by (Provider d) e =
        let there = end_at plan bridge port d e in
        let l = lane_from plan d there.0 in
        off_moves plan rec rooted sound shows l.0 d l.1 l.2
        (queue_on plan rec sound l.0 d l.1 (at d.bridge d.port there.1 there.2))
    by Unused e =
        let none = unused_empty spanning_tree plan rec lawful bridge port e in
        let some_there : HasSome (queue_at plan rec bridge port) = some in
        absurd (nothing (subst HasSome none some_there))
      where
        nothing : HasSome {X = Waiting} [] → ⊥
        nothing h = omega (arith, h)

-- nothing waits at a customer port, nor in the queue of its bridge there
abbrev IsPortClear : Plan → Record → ℕ → CustomerPlan → Type 0
IsPortClear plan rec number c = IsPortEmpty rec number c × (queue_at plan rec c.bridge c.port ≡ [])

-- nothing waits on a lane, nor in the queue before it
abbrev IsLaneClear : Plan → Record → ℕ → End → End → Type 0
IsLaneClear plan rec lane from to = IsLaneEmpty rec lane from to × (queue_at plan rec from.bridge from.port ≡ [])

abbrev IsLinkClear : Plan → Record → ℕ → LinkPlan → Type 0
IsLinkClear plan rec number link =
    IsLaneClear plan rec (lane_ab number) link.a link.b × IsLaneClear plan rec (lane_ba number) link.b link.a

port_or : (plan : Plan) (rec : Record) (rooted : Rooted) → IsSound plan → ShowsAll plan (last_shape plan rec) rooted
    → IsLawfulRecord spanning_tree plan rec → (number : ℕ) (c : CustomerPlan)
    → numbered plan.customers number ≡ Some c → IsPortClear plan rec number c ⊎ CanMove plan rec
port_or plan rec rooted sound shows lawful number c at =
    then_or (λ h. (record { hand = h.0.0.0; ring_in = h.0.0.1; ring_out = h.0.1 }, h.1))
    (both (both (both
    (empty_or (port_hand rec number)
    (λ h. in_moves plan rec rooted sound shows number c at (hand_in plan rec sound number c h)))
    (empty_or (ring_in rec number c) (λ h. in_moves plan rec rooted sound shows number c at (inr h))))
    (empty_or (ring_out rec number c) (λ h. AtPort number c at (Delivers h))))
    (empty_or (queue_at plan rec c.bridge c.port)
    (queue_moves plan rec rooted sound shows lawful c.bridge c.port)))

lane_or : (plan : Plan) (rec : Record) (rooted : Rooted) → IsSound plan → ShowsAll plan (last_shape plan rec) rooted
    → IsLawfulRecord spanning_tree plan rec → (lane : ℕ) (from to : End) → IsLane plan lane from to
    → IsLaneClear plan rec lane from to ⊎ CanMove plan rec
lane_or plan rec rooted sound shows lawful lane from to l =
    then_or (λ h. (record { ring_onto = h.0.0.0; hand = h.0.0.1; ring_off = h.0.1 }, h.1))
    (both (both (both
    (empty_or (ring_onto rec lane from)
    (λ h. off_moves plan rec rooted sound shows lane from to l (onto_on plan rec sound lane from to h)))
    (empty_or (lane_hand rec lane)
    (λ h. off_moves plan rec rooted sound shows lane from to l (hand_on plan rec sound lane from to h))))
    (empty_or (ring_off rec lane to) (λ h. off_moves plan rec rooted sound shows lane from to l (inr h))))
    (empty_or (queue_at plan rec from.bridge from.port)
    (queue_moves plan rec rooted sound shows lawful from.bridge from.port)))

link_or : (plan : Plan) (rec : Record) (rooted : Rooted) → IsSound plan → ShowsAll plan (last_shape plan rec) rooted
    → IsLawfulRecord spanning_tree plan rec → (number : ℕ) (link : LinkPlan)
    → numbered plan.links number ≡ Some link → IsLinkClear plan rec number link ⊎ CanMove plan rec
link_or plan rec rooted sound shows lawful number link at =
    both
    (lane_or plan rec rooted sound shows lawful (lane_ab number) link.a link.b
    (record { number = number; link = link; numbered_so = at; leads = inl (refl, refl, refl) }))
    (lane_or plan rec rooted sound shows lawful (lane_ba number) link.b link.a
    (record { number = number; link = link; numbered_so = at; leads = inr (refl, refl, refl) }))

-- a lane of a link that is clear is clear
lane_clear : (plan : Plan) (rec : Record)
    → ((number : ℕ) (link : LinkPlan) → numbered plan.links number ≡ Some link → IsLinkClear plan rec number link)
    → (lane : ℕ) (from to : End) → IsLane plan lane from to → IsLaneClear plan rec lane from to
lane_clear plan rec clear lane from to l = by l.leads (clear l.number l.link l.numbered_so)
  where
    at : (n : ℕ) (e f : End) → lane ≡ n → e ≡ from → f ≡ to → IsLaneClear plan rec n e f
        → IsLaneClear plan rec lane from to
    at n e f a b c h =
        subst (λ m. IsLaneClear plan rec m from to) (sym a)
        (subst (λ x. IsLaneClear plan rec n x to) b (subst (λ y. IsLaneClear plan rec n e y) c h))

    by : ((lane ≡ lane_ab l.number) × (l.link.a ≡ from) × (l.link.b ≡ to))
        ⊎ ((lane ≡ lane_ba l.number) × (l.link.b ≡ from) × (l.link.a ≡ to))
        → IsLinkClear plan rec l.number l.link → IsLaneClear plan rec lane from to
    by (inl h) c = at (lane_ab l.number) l.link.a l.link.b h.0 h.1 h.2 c.0
    by (inr h) c = at (lane_ba l.number) l.link.b l.link.a h.0 h.1 h.2 c.1

-- if nothing waits at each customer port and on each link, no queue holds anything
queues_clear : (plan : Plan) (rec : Record) → IsLawfulRecord spanning_tree plan rec
    → ((number : ℕ) (c : CustomerPlan) → numbered plan.customers number ≡ Some c → IsPortClear plan rec number c)
    → ((lane : ℕ) (from to : End) → IsLane plan lane from to → IsLaneClear plan rec lane from to)
    → (bridge port : ℕ) → queue_at plan rec bridge port ≡ []
queues_clear plan rec lawful ports lanes bridge port = by (port_at plan bridge port) refl
  where
    at : (b p : ℕ) → b ≡ bridge → p ≡ port → queue_at plan rec b p ≡ [] → queue_at plan rec bridge port ≡ []
    at b p e f h =
        subst (λ y. queue_at plan rec bridge y ≡ []) f (subst (λ x. queue_at plan rec x p ≡ []) e h)

    by : (p : Port) → port_at plan bridge port ≡ p → queue_at plan rec bridge port ≡ []
    by (Customer c) e =
        let there = customer_at plan bridge port c e in
        at c.bridge c.port there.2 there.3 (ports there.0 c there.1).1
    by (Provider d) e =
        let there = end_at plan bridge port d e in
        let l = lane_from plan d there.0 in
        at d.bridge d.port there.1 there.2 (lanes l.0 d l.1 l.2).1
    by Unused e = unused_empty spanning_tree plan rec lawful bridge port e

pub nothing_waits_or_moves : NothingWaitsOrMoves
nothing_waits_or_moves plan rec rooted sound lawful shows =
    then_or clear
    (both
    (each_or (IsPortClear plan rec) plan.customers (port_or plan rec rooted sound shows lawful))
    (each_or (IsLinkClear plan rec) plan.links (link_or plan rec rooted sound shows lawful)))
  where
    clear : ((number : ℕ) (c : CustomerPlan) → numbered plan.customers number ≡ Some c → IsPortClear plan rec number c)
        × ((number : ℕ) (link : LinkPlan) → numbered plan.links number ≡ Some link → IsLinkClear plan rec number link)
        → NothingWaits plan rec
    clear h = record {
      queues = queues_clear plan rec lawful h.0 (lane_clear plan rec h.1);
      ports = λ number c at. (h.0 number c at).0;
      lanes = λ lane from to l. (lane_clear plan rec h.1 lane from to l).0;
    }

pub no_standstill : NoStandstill
no_standstill plan rec rooted sound lawful shows still =
    by (nothing_waits_or_moves plan rec rooted sound lawful shows)
  where
    by : NothingWaits plan rec ⊎ CanMove plan rec → NothingWaits plan rec
    by (inl h) = h
    by (inr move) = absurd (still move)
