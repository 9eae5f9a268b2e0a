-- The ruling by a port's configuration is the ruling of the definition.
use Rattle.std.proofs.Common.{◌≡◌, ℕ, zero, suc, ◌+◌, ◌-◌, ◌<◌, ◌≤◌, Bool, true, false, Some, None, List, [], ◌∷◌}
use Rattle.std.proofs.Common.{◌++◌, map, get_or, refl, ap, ◌∙◌, arith}
use Rattle.pb_lan.specs.Ports.{Port, port_at, local_ports, serves, is_used}
use Rattle.pb_lan.specs.Ports.Port.{Customer, Provider, Unused}
use Rattle.pb_lan.specs.Shapes.{state_after, states_after}
use Rattle.pb_lan.specs.BridgeLists.{ruling, bridge_cases, Ruling, ruling_by, first_case, customer_cases, refusing}
use Rattle.pb_lan.specs.BridgeLists.{ruling_in}
use Rattle.pb_lan.specs.declared.step.Step.{Step}
use Rattle.pb_lan.specs.BridgeLists.Ruling.{Carries, Refuses}
use Rattle.pb_frame.specs.Admission.{first_reason}
use Rattle.pb_frame.specs.declared.reason.Reason.{Reason}
use Rattle.pb_frame.specs.Tags.{vid_of}
use Rattle.pb_lan.specs.declared.plan.Plan.{Plan}
use Rattle.pb_lan.specs.declared.shape.PortState.{PortState}
use Rattle.pb_lan.specs.declared.step.Item.{Item}
use Rattle.pb_relay.specs.PortKinds.{LocalPort, serves_of}
use Rattle.pb_relay.specs.PortKinds.LocalPort.{ToCustomer, ToBridge, ToNobody}
use Rattle.pb_relay.specs.LocalPorts.{IsKept}
use Rattle.pb_relay.specs.Protocol.{spanning_tree}
use Rattle.pb_relay.specs.Verdicts.{local_ruling, is_to_somebody}
use Rattle.pb_relay.proofs.WaitingLemmas.{count_up}

-- the ruling by the configuration of a port and its state is the ruling there
pub ruled : (plan : Plan) (port : Port) (local : LocalPort) (state : PortState) (item : Item) → IsKept plan port local
    → local_ruling local state item ≡ ruling_by spanning_tree plan port state item
ruled plan (Customer c) (ToCustomer vid pcp) state item k = ap (λ v. first_case (customer_cases item) (Carries v)) k.0
ruled plan (Provider e) (ToBridge start vids) state item k = served (serves_of vids (vid_of item.wire))
    (serves plan (vid_of item.wire) e) (k.1 (vid_of item.wire))
  where
    served : (a b : Bool) → a ≡ b → first_case (bridge_cases spanning_tree.is_readable (λ _. a) item)
        (ruling_in state (vid_of item.wire)) ≡ first_case (bridge_cases spanning_tree.is_readable (λ _. b) item)
        (ruling_in state (vid_of item.wire))
    served a b h = ap (λ z. first_case (bridge_cases spanning_tree.is_readable (λ _. z) item)
        (ruling_in state (vid_of item.wire))) h
ruled plan Unused ToNobody state item k = refl
ruled plan _ _ state item k = absurd k

-- the configuration of a used port is not that of an unused one
pub used_here : (plan : Plan) (port : Port) (local : LocalPort) → IsKept plan port local → is_used port ≡ true
    → is_to_somebody local ≡ true
used_here plan Unused local k u = cc
used_here plan (Customer c) ToNobody k u = absurd k
used_here plan (Provider e) ToNobody k u = absurd k
used_here plan _ _ k u = refl

-- the entry at a place of a list by ascending numbers
pub get_up : {X : Type 0} (f : ℕ → X) (n k i : ℕ) (d : X) → i < n → get_or (map f (count_up k n)) i d ≡ f (k + i)
get_up f zero k i d l = absurd (omega arith)
get_up f (suc n) k zero d l = let s : k ≡ k + 0 = omega arith in ap f s
get_up f (suc n) k (suc i) d l = let s : (k + 1) + i ≡ k + suc i = omega arith in get_up f n (k + 1) i d (omega arith)
    ∙ ap f s

-- the entry at a port of a list by local ports
pub at_port : {X : Type 0} (f : ℕ → X) (p : ℕ) (d : X) → 1 ≤ p → p ≤ 16 → get_or (map f local_ports) (p - 1) d ≡ f p
at_port f p d a b =
    let s : 1 + (p - 1) ≡ p = omega arith in
    get_up f 16 1 (p - 1) d (omega arith) ∙ ap f s

-- the ruling by a bridge's configuration and states is the ruling after its steps
pub rule_is : (plan : Plan) (b : ℕ) (steps : List Step) (states : List PortState) (p : ℕ) (local : LocalPort)
    (item : Item) (d : PortState)
    → states ≡ states_after plan b steps → (1 ≤ p) × (p ≤ 16) → IsKept plan (port_at plan b p) local
    → local_ruling local (get_or states (p - 1) d) item ≡ ruling spanning_tree plan b steps p item
rule_is plan b steps states p local item d e l k =
    ap (λ z. local_ruling local (get_or z (p - 1) d) item) e
    ∙ ap (λ z. local_ruling local z item) (at_port (state_after plan b steps) p d l.0 l.1)
    ∙ ruled plan (port_at plan b p) local (state_after plan b steps p) item k

-- a frame with a reason among the first cases is refused for it, whatever the later cases are
pub first-refuses : (cs more : List (Bool × Reason)) (reason : Reason) (rest : Ruling) → first_reason cs ≡ Some reason
    → first_case (map refusing (cs ++ more)) rest ≡ Refuses reason
first-refuses ((false, r) ∷ cs) more reason rest h = first-refuses cs more reason rest h
first-refuses _ more reason rest h = cc

-- a frame without a reason among the first cases has the ruling of the later cases
pub first-passes : (cs more : List (Bool × Reason)) (rest : Ruling) → first_reason cs ≡ None
    → first_case (map refusing (cs ++ more)) rest ≡ first_case (map refusing more) rest
first-passes [] more rest h = refl
first-passes ((true, r) ∷ cs) more rest h = cc
first-passes ((false, r) ∷ cs) more rest h = first-passes cs more rest h
