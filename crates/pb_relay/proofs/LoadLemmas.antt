-- The forms of a frame are those that the definition gives for each port of a bridge.
use Rattle.std.proofs.Common.{◌≡◌, ℕ, zero, suc, ◌+◌, ◌-◌, ◌<◌, ◌≤◌, Bool, true, false, cond, ◌||◌, List, [], ◌∷◌}
use Rattle.std.proofs.Common.{get_or, unwrap_or, refl, sym, ap, ◌∙◌, subst, arith}
use Rattle.std.specs.List.{list_any}
use Rattle.pb_frame.specs.Tags.{bare, tagged, has_priority_tag, priority_of}
use Rattle.pb_lan.specs.Ports.{Port, port_at, vid_at, is_used}
use Rattle.pb_lan.specs.Ports.Port.{Customer, Provider, Unused}
use Rattle.pb_lan.specs.Queues.{class_of, priority_in, wire_out}
use Rattle.pb_lan.specs.declared.plan.Plan.{Plan}
use Rattle.pb_lan.specs.declared.shape.PortState.{PortState}
use Rattle.pb_relay.specs.declared.backlog.Capacity.{Capacity}
use Rattle.pb_relay.specs.declared.load.Load.{Load}
use Rattle.pb_relay.specs.PortKinds.{LocalPort, told}
use Rattle.pb_relay.specs.PortKinds.LocalPort.{ToCustomer, ToBridge, ToNobody}
use Rattle.pb_relay.specs.Kinds.{is_to_customer, is_to_bridge}
use Rattle.pb_relay.specs.Loads.{IsLoad, IsLoadedAt, brought, is_member_of}
use Rattle.pb_relay.specs.LocalPorts.{IsKept, IsConfigured}

-- the configuration of a local port is the plan's
pub kept_here : (plan : Plan) (b : ℕ) (ports : List LocalPort) (capacity : Capacity) (limit p : ℕ)
    → IsConfigured plan b ports capacity limit → (1 ≤ p) × (p ≤ 16)
    → IsKept plan (port_at plan b p) (get_or ports (p - 1) ToNobody)
kept_here plan b ports capacity limit p k l =
    let l0 : 1 ≤ p = l.0 in
    let l1 : p ≤ 16 = l.1 in
    let h : p - 1 + 1 ≡ p = omega arith in
    subst (λ (r : ℕ). IsKept plan (port_at plan b r) (get_or ports (p - 1) ToNobody)) h
    (k.kept_ports (p - 1) (omega arith))

-- if one port passes a test, some port does
some_port : (q : LocalPort → Bool) (ports : List LocalPort) (i : ℕ) → q ToNobody ≡ false
    → q (get_or ports i ToNobody) ≡ true → list_any q ports ≡ true
some_port q [] i n h = let t : false ≡ true = sym n ∙ h in cc
some_port q (x ∷ ports) zero n h = ap (λ b. b || list_any q ports) h
some_port q (x ∷ ports) (suc i) n h =
    elim (q x) as (λ b. (b || list_any q ports) ≡ true) [ true ↦ refl | false ↦ some_port q ports i n h ]

-- the forms of a customer's frame
customer_brings : (plan : Plan) (vid pcp : ℕ) (wire : List ℕ) (load : Load) (customers bridges : Bool)
    (entry exit : Port) (local : LocalPort)
    → IsKept plan entry (ToCustomer vid pcp) → IsLoad customers bridges (told (ToCustomer vid pcp)) wire load
    → IsKept plan exit local → (is_to_bridge local ≡ true → bridges ≡ true) → is_used exit ≡ true
    → brought exit wire load ≡ wire_out plan entry exit wire
customer_brings plan vid pcp wire load customers bridges (Customer c) (Customer d) local k l q b u = l.to_customers
customer_brings plan vid pcp wire load customers bridges (Customer c) (Provider e) (ToBridge start vids) k l q b u =
    l.to_bridges (b refl) ∙ ap (λ v. tagged (bare wire) (cond (has_priority_tag wire) (priority_of wire) pcp) 0 v) k.0
    ∙ ap (λ p. tagged (bare wire) (cond (has_priority_tag wire) (priority_of wire) p) 0 (vid_at plan c)) k.1
customer_brings plan vid pcp wire load customers bridges (Customer c) Unused local k l q b u = cc
customer_brings plan vid pcp wire load customers bridges (Provider f) exit local k l q b u = absurd k
customer_brings plan vid pcp wire load customers bridges Unused exit local k l q b u = absurd k
customer_brings plan vid pcp wire load customers bridges _ _ _ k l q b u = absurd q

-- the forms of a bridge's frame
bridge_brings : (plan : Plan) (start : PortState) (vids : List ℕ) (wire : List ℕ) (load : Load)
    (customers bridges : Bool) (entry exit : Port) (local : LocalPort)
    → IsKept plan entry (ToBridge start vids) → IsLoad customers bridges (told (ToBridge start vids)) wire load
    → IsKept plan exit local → (is_to_customer local ≡ true → customers ≡ true) → is_used exit ≡ true
    → brought exit wire load ≡ wire_out plan entry exit wire
bridge_brings plan start vids wire load customers bridges (Provider f) (Customer d) (ToCustomer v p) k l q c u =
    l.to_customers (c refl)
bridge_brings plan start vids wire load customers bridges (Provider f) (Provider e) local k l q c u = l.to_bridges
bridge_brings plan start vids wire load customers bridges (Provider f) Unused local k l q c u = cc
bridge_brings plan start vids wire load customers bridges (Customer d) exit local k l q c u = absurd k
bridge_brings plan start vids wire load customers bridges Unused exit local k l q c u = absurd k
bridge_brings plan start vids wire load customers bridges _ _ _ k l q c u = absurd q

-- the forms of a frame from any kind of port
brings : (plan : Plan) (entry : Port) (here : LocalPort) (wire : List ℕ) (load : Load) (customers bridges : Bool)
    (exit : Port) (local : LocalPort)
    → IsKept plan entry here → IsLoad customers bridges (told here) wire load → IsKept plan exit local
    → (is_to_customer local ≡ true → customers ≡ true) → (is_to_bridge local ≡ true → bridges ≡ true)
    → is_used exit ≡ true
    → brought exit wire load ≡ wire_out plan entry exit wire
brings plan entry (ToCustomer vid pcp) wire load customers bridges exit local k l q c b u =
    customer_brings plan vid pcp wire load customers bridges entry exit local k l q b u
brings plan entry (ToBridge start vids) wire load customers bridges exit local k l q c b u =
    bridge_brings plan start vids wire load customers bridges entry exit local k l q c u
brings plan entry ToNobody wire load customers bridges exit local k l q c b u = absurd l

-- the traffic class of a frame
class_is : (plan : Plan) (entry : Port) (here : LocalPort) (wire : List ℕ) (load : Load) (customers bridges : Bool)
    → IsKept plan entry here → IsLoad customers bridges (told here) wire load
    → (load.class ≡ class_of (priority_in entry wire)) × (load.class < 8)
class_is plan (Customer c) (ToCustomer vid pcp) wire load customers bridges k l =
    (l.class ∙ ap (λ p. class_of (cond (has_priority_tag wire) (priority_of wire) p)) k.1, l.eight)
class_is plan (Provider f) (ToBridge start vids) wire load customers bridges k l = (l.class, l.eight)
class_is plan entry ToNobody wire load customers bridges k l = absurd l
class_is plan _ _ wire load customers bridges k l = absurd k

-- the forms that are made by the kinds of all ports are right for each port
pub loaded : (plan : Plan) (b : ℕ) (ports : List LocalPort) (capacity : Capacity) (limit : ℕ) (entry : Port)
    (here : LocalPort)
    (wire : List ℕ) (load : Load)
    → IsConfigured plan b ports capacity limit → IsKept plan entry here
    → IsLoad (list_any is_to_customer ports) (list_any is_to_bridge ports) (told here) wire load
    → IsLoadedAt plan b entry wire load
loaded plan b ports capacity limit entry here wire load k e l =
    let class = class_is plan entry here wire load (list_any is_to_customer ports) (list_any is_to_bridge ports) e l
    in record {
      wires = λ p first last used. brings plan entry here wire load (list_any is_to_customer ports)
          (list_any is_to_bridge ports) (port_at plan b p) (get_or ports (p - 1) ToNobody)
          e l (kept_here plan b ports capacity limit p k (first, last))
          (some_port is_to_customer ports (p - 1) refl) (some_port is_to_bridge ports (p - 1) refl) used;
      class = class.0;
      eight = class.1;
    }

-- a member of a service is a used port
pub member_used : (plan : Plan) (port : Port) (local : LocalPort) (service : ℕ) → IsKept plan port local
    → is_member_of local service ≡ true → is_used port ≡ true
member_used plan Unused ToNobody service k m = cc
member_used plan Unused (ToCustomer vid pcp) service k m = absurd k
member_used plan Unused (ToBridge start vids) service k m = absurd k
member_used plan _ local service k m = refl

-- the form that the code takes for a port is that of the definition
pub sent_is : (plan : Plan) (port : Port) (local : LocalPort) (service : ℕ) (wire : List ℕ) (load : Load)
    → IsKept plan port local → is_member_of local service ≡ true
    → cond (is_to_customer local) (unwrap_or load.bare wire) (unwrap_or load.tagged wire) ≡ brought port wire load
sent_is plan (Customer c) (ToCustomer vid pcp) service wire load k m = refl
sent_is plan (Provider e) (ToBridge start vids) service wire load k m = refl
sent_is plan port ToNobody service wire load k m = cc
sent_is plan _ _ service wire load k m = absurd k
