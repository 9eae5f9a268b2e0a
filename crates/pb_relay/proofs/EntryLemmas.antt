-- What the rulings guarantee of a received frame, and what a sound plan guarantees of its port.
use Rattle.std.proofs.Common.{◌≡◌, ◌≢◌, ℕ, ◌≤◌, Bool, true, false, nat_lt, ◌==◌, List, Some, None, length, refl}
use Rattle.std.proofs.Common.{arith, eq-eqb}
use Rattle.pb_frame.proofs.Lists.{first-found}
use Rattle.pb_frame.specs.Lists.{first}
use Rattle.pb_frame.specs.Frames.{shortest_frame}
use Rattle.pb_frame.specs.Tags.{vid_of, shortest_tagged}
use Rattle.pb_lan.proofs.Cases.{stops, none-holds, neither-left, neither-right, is_malformed, is_wearing}
use Rattle.pb_lan.proofs.Rulings.{vid_at-small}
use Rattle.pb_lan.specs.Plans.{IsSound, IsSoundCustomer, IsSoundEnd}
use Rattle.pb_lan.specs.Ports.{Port, port_at, vid_at, serves, is_customer_at, is_end_at, all_ends, customer_or_else}
use Rattle.pb_lan.specs.Ports.{provider_or_unused}
use Rattle.pb_lan.specs.Ports.Port.{Customer, Provider, Unused}
use Rattle.pb_lan.specs.Queues.{vid_in}
use Rattle.pb_relay.specs.Protocol.{spanning_tree}
use Rattle.pb_lan.specs.Shapes.{is_forwarding, state_by}
use Rattle.pb_lan.specs.BridgeLists.{Ruling, first_case, customer_cases, ruling_in, ruling_by, bridge_cases}
use Rattle.pb_lan.specs.BridgeLists.{is_for_bridges, most_hops}
use Rattle.pb_lan.specs.BridgeLists.Ruling.{LearnsOnly, Carries}
use Rattle.pb_lan.specs.declared.plan.Plan.{Plan}
use Rattle.pb_lan.specs.declared.shape.PortState.{PortState}
use Rattle.pb_lan.specs.declared.shape.PortState.TheVariants.{Discarding, Learning, Forwarding}
use Rattle.pb_lan.specs.declared.step.Item.{Item}
use Rattle.pb_relay.specs.PortKinds.{LocalPort, told}
use Rattle.pb_relay.specs.PortKinds.LocalPort.{ToCustomer, ToBridge}
use Rattle.pb_relay.specs.Loads.{IsLoadable}
use Rattle.pb_relay.specs.LocalPorts.{IsKept}

at-least : (m n : ℕ) → nat_lt n m ≡ false → m ≤ n
at-least m n h = grind (arith, h)

unworn : (n : ℕ) → (n == most_hops) ≡ false → n ≢ most_hops
unworn n h e = let t = eq-eqb n most_hops e in cc

-- what is known of a frame whose source is learnt in a service
pub record IsAdmitted (plan : Plan) (port : Port) (item : Item) (vid : ℕ) : Type 0 where
  pub long : shortest_frame ≤ length item.wire
  pub unworn : item.hops ≢ most_hops
  pub service : vid_in plan port item.wire ≡ vid

-- a frame at a customer port that is not refused
from_customer : (item : Item) (rest target : Ruling) → stops target ≡ false
    → first_case (customer_cases item) rest ≡ target
    → (shortest_frame ≤ length item.wire) × (item.hops ≢ most_hops) × (rest ≡ target)
from_customer item rest target on h =
    let a = none-holds (customer_cases item) rest target refl on h in (
      at-least shortest_frame (length item.wire) (neither-left _ _ (a.0 is_malformed)),
      unworn item.hops
          (neither-left _ _ (a.0 is_wearing)),
      a.1,
    )

-- a frame at a port to a bridge that is neither refused nor read as a BPDU
from_bridge : (services : ℕ → Bool) (item : Item) (rest target : Ruling) → stops target ≡ false
    → first_case (bridge_cases spanning_tree.is_readable services item) rest ≡ target
    → (shortest_tagged ≤ length item.wire) × (item.hops ≢ most_hops) × (rest ≡ target)
from_bridge services item rest target on h =
    let a = none-holds (bridge_cases spanning_tree.is_readable services item) rest target refl on h in
    let cut = neither-left _ _ (neither-right (is_for_bridges item.wire) _ (neither-right _ _ (a.0 is_malformed))) in
    (at-least shortest_tagged (length item.wire) cut, unworn item.hops (neither-left _ _ (a.0 is_wearing)), a.1)

carries_in : (s : PortState) (w v : ℕ) → ruling_in s w ≡ Carries v → (w ≡ v) × (is_forwarding s ≡ true)
carries_in Forwarding w v h = (cc, refl)
carries_in _ w v h = cc

learns_in : (s : PortState) (w v : ℕ) → ruling_in s w ≡ LearnsOnly v → w ≡ v
learns_in Discarding w v h = cc
learns_in Learning w v h = cc
learns_in Forwarding w v h = cc

-- a frame that is relayed has been admitted
pub carried : (plan : Plan) (port : Port) (state : PortState) (item : Item) (v : ℕ)
    → ruling_by spanning_tree plan port state item ≡ Carries v → IsAdmitted plan port item v
carried plan (Customer c) state item v h =
    let a = from_customer item (Carries (vid_at plan c)) (Carries v) refl h in
    let same = a.2 in record { long = a.0; unworn = a.1; service = cc }
carried plan (Provider e) state item v h =
    let a = from_bridge (λ w. serves plan w e) item (ruling_in state (vid_of item.wire)) (Carries v) refl h in
    record { long = omega (arith, a.0); unworn = a.1; service = (carries_in state (vid_of item.wire) v a.2).0 }
carried plan Unused state item v h = cc

-- the port at which a relayed frame arrived is Forwarding
pub forwards : (plan : Plan) (port : Port) (p : ℕ) (changes : List (ℕ × PortState)) (item : Item) (v : ℕ)
    → ruling_by spanning_tree plan port (state_by plan.spanning port p changes) item ≡ Carries v
    → is_forwarding (state_by plan.spanning port p changes) ≡ true
forwards plan (Customer c) p changes item v h = refl
forwards plan (Provider e) p changes item v h =
    let state = state_by plan.spanning (Provider e) p changes in
    let a = from_bridge (λ w. serves plan w e) item (ruling_in state (vid_of item.wire)) (Carries v) refl h in
    (carries_in state (vid_of item.wire) v a.2).1
forwards plan Unused p changes item v h = cc

-- a frame whose source is learnt and that is filtered has been admitted
pub overheard : (plan : Plan) (port : Port) (state : PortState) (item : Item) (v : ℕ)
    → ruling_by spanning_tree plan port state item ≡ LearnsOnly v → IsAdmitted plan port item v
overheard plan (Customer c) state item v h =
    let a = from_customer item (Carries (vid_at plan c)) (LearnsOnly v) refl h in
    let never = a.2 in cc
overheard plan (Provider e) state item v h =
    let a = from_bridge (λ w. serves plan w e) item (ruling_in state (vid_of item.wire)) (LearnsOnly v) refl h in
    record { long = omega (arith, a.0); unworn = a.1; service = learns_in state (vid_of item.wire) v a.2 }
overheard plan Unused state item v h = cc

-- what a sound plan has at a port is sound
abbrev pub IsSoundPort : Plan → Port → Type 0
IsSoundPort plan (Customer c) = IsSoundCustomer plan c
IsSoundPort plan (Provider e) = IsSoundEnd plan e
IsSoundPort plan Unused = Unit {0}

-- each port of a sound plan is sound
pub sound_port : (plan : Plan) (b p : ℕ) → IsSound plan → IsSoundPort plan (port_at plan b p)
sound_port plan b p s =
    elim (first (is_customer_at b p) plan.customers)
    as (λ o. first (is_customer_at b p) plan.customers ≡ o → IsSoundPort plan
    (customer_or_else o (provider_or_unused (first (is_end_at b p) (all_ends plan))))) [
      | Some c ↦ λ e. (first-found (IsSoundCustomer plan) (is_customer_at b p) plan.customers c e s.customers).0
      | None ↦ λ e. elim (first (is_end_at b p) (all_ends plan))
          as (λ o. first (is_end_at b p) (all_ends plan) ≡ o → IsSoundPort plan (provider_or_unused o)) [
            | Some x ↦ λ e. (first-found (IsSoundEnd plan) (is_end_at b p) (all_ends plan) x e s.ends).0
            | None ↦ λ e. tt
          ] refl
    ] refl

-- the forms of a relayed frame can be made
pub loadable : (plan : Plan) (port : Port) (local : LocalPort) (state : PortState) (item : Item) (v : ℕ)
    → IsSound plan → IsSoundPort plan port → IsKept plan port local
    → ruling_by spanning_tree plan port state item ≡ Carries v → IsLoadable (told local) item.wire
loadable plan (Customer c) (ToCustomer vid pcp) state item v s p k h =
    let small = vid_at-small plan c s in
    let priority = p.priority in (
      omega (arith, small, k.0),
      omega (arith, priority, k.1),
      (from_customer item (Carries (vid_at plan c)) (Carries v) refl h).0,
    )
loadable plan (Provider e) (ToBridge start vids) state item v s p k h =
    (from_bridge (λ w. serves plan w e) item (ruling_in state (vid_of item.wire)) (Carries v) refl h).0
loadable plan Unused local state item v s p k h = cc
loadable plan _ _ state item v s p k h = absurd k
