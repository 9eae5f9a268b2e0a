-- The configuration of local ports, one by one. For `attach` and `local_ports`.
use Rattle.pb_svlan.specs.ServiceTables.{ServiceTable, vid_of, are_known, is_taken, kind_at, attached, carried}
use Rattle.std.proofs.Common.{◌≢◌, length-set, get_or-set_same, get_or-set_other, ◌≡◌, ℕ, ◌+◌, ◌-◌, ◌<◌, true, false}
use Rattle.std.proofs.Common.{cond, ◌==◌, Some, None, List, map, length, get_or, set, unwrap_or, eq-eqb}
use Rattle.std.proofs.Common.{refl, sym, ap, ◌∙◌, subst, arith}
use Rattle.std.proofs.lemmas.Bool.{eqb-true, eqb-false, ne_eqb}
use Rattle.pb_relay.proofs.StandingLemmas.{customer_there, end_there}
use Rattle.std.specs.List.{AllByRecursion}
use Rattle.std.specs.Option.{option_map}
use Rattle.std.specs.declared.option.Option.{Option}
use Rattle.pb_frame.specs.Lists.{first}
use Rattle.pb_frame.proofs.Things.{eqb-symm, none_from}
use Rattle.pb_lan.proofs.Numbers.{numbered-exists}
use Rattle.pb_lan.specs.Numbering.{numbered}
use Rattle.pb_lan.specs.Plans.{IsSound, IsSoundEnd, IsNumber}
use Rattle.pb_lan.specs.Ports.{port_at, is_customer_at, is_end_at, all_ends, has_vid, serves, customer_or_else}
use Rattle.pb_lan.specs.Ports.{provider_or_unused}
use Rattle.pb_lan.specs.declared.plan.Plan.{Plan}
use Rattle.pb_lan.specs.declared.plan.CustomerPlan.{CustomerPlan}
use Rattle.pb_lan.specs.declared.plan.End.{End}
use Rattle.pb_lan.specs.declared.shape.PortState.{PortState}
use Rattle.pb_lan.specs.declared.shape.PortState.TheVariants.{Discarding}
use Rattle.pb_svlan.specs.declared.port.Join.{Join}
use Rattle.pb_svlan.specs.declared.port.PortKind.{PortKind}
use Rattle.pb_svlan.specs.declared.port.PortKind.TheVariants.{Customer, Trunk}
use Rattle.pb_relay.proofs.PortKindLemmas.{local_here, locals-length}
use Rattle.pb_relay.proofs.ServiceLemmas.{vid-known, all-known, carried-serves, kind-attached}
use Rattle.pb_relay.specs.LocalPorts.{IsKept}
use Rattle.pb_relay.specs.PortKinds.{local_as, local_of, locals, serves_of, vids_of}
use Rattle.pb_relay.specs.PortKinds.LocalPort.{ToCustomer, ToBridge}
use Rattle.pb_relay.specs.Starts.{HasServices, HasAttached, KeepsPorts}

-- a port that is attached has the kind as which it is attached
pub kind-here : (table : ServiceTable) (port : ℕ) (kind : PortKind) → is_taken table port ≡ false
    → kind_at (attached table port kind) port ≡ Some kind
kind-here table port kind free =
    kind-attached table.ports (record { port = port; kind = kind }) port (none_from (kind_at table port) free)
    ∙ ap (λ b. cond b (Some kind) (kind_at table port)) (eq-eqb port port refl)

pub kind-elsewhere : (table : ServiceTable) (port q : ℕ) (kind : PortKind) → is_taken table port ≡ false
    → (q == port) ≡ false → kind_at (attached table port kind) q ≡ kind_at table q
kind-elsewhere table port q kind free other =
    kind-attached table.ports (record { port = port; kind = kind }) q (none_from (kind_at table port) free)
    ∙ ap (λ b. cond b (Some kind) (kind_at table q)) (eqb-symm port q ∙ other)

-- the services that an end lists are services of the plan
listed-sound : (plan : Plan) (e : End) (services : Option (List ℕ)) → e.services ≡ services → IsSoundEnd plan e
    → (numbers : List ℕ) → services ≡ Some numbers → AllByRecursion (λ n. IsNumber n (length plan.services)) numbers
listed-sound plan e services h s numbers k =
    let all = s.services in
    let found : e.services ≡ Some numbers = h ∙ k in
    (rw found at all).1

pub end_known : (plan : Plan) (table : ServiceTable) (e : End) → HasServices plan table → IsSoundEnd plan e
    → are_known table e.services ≡ true
end_known plan table e h s = by_list e.services refl
  where
    by_list : (services : Option (List ℕ)) → e.services ≡ services → are_known table services ≡ true
    by_list None k = refl
    by_list (Some numbers) k = all-known plan table numbers h (listed-sound plan e (Some numbers) k s numbers refl)

-- a customer port is configured with the VID of its service
pub customer_kept : (plan : Plan) (number port : ℕ) (table new : ServiceTable) (join : Join) (start : PortState)
    (c : CustomerPlan) → IsSound plan → HasServices plan table
    → Some c ≡ first (is_customer_at number port) plan.customers → is_taken table port ≡ false
    → vid_of table c.service ≡ Some join.vid → join.pcp ≡ c.pcp → new ≡ attached table c.port (Customer join)
    → IsKept plan (port_at plan number port) (local_as new start (kind_at new port))
customer_kept plan number port table new join start c sound h found free vid pcp e =
    let there = customer_there plan number port c sound found in
    let s = numbered-exists plan.services c.service there.0.service in
    let same_vid : Some join.vid ≡ option_map (λ t. t.vid) (numbered plan.services c.service) = sym vid
    ∙ vid-known plan table c.service h in
    let one : join.vid ≡ unwrap_or (option_map (λ t. t.vid) (numbered plan.services c.service)) 0 =
    ap (λ o. unwrap_or o 0) same_vid in
    let all : (v : ℕ) → (join.vid == v) ≡ has_vid plan v c.service = λ v.
    ap (λ n. n == v) (one ∙ ap (λ o. unwrap_or (option_map (λ t. t.vid) o) 0) s.1)
    ∙ sym (ap (λ o. unwrap_or (option_map (λ t. t.vid == v) o) false) s.1) in
    let here : kind_at new port ≡ Some (Customer join) =
    ap (λ (t : ServiceTable). kind_at t port) (e ∙ ap (λ n. attached table n (Customer join)) there.1)
    ∙ kind-here table port (Customer join) free in
    let kept : IsKept plan (port_at plan number port) (ToCustomer join.vid join.pcp) =
    subst (λ o. IsKept plan (customer_or_else o (provider_or_unused (first (is_end_at number port) (all_ends plan))))
    (ToCustomer join.vid join.pcp)) found (one, pcp, all) in
    subst (λ (o : Option PortKind). IsKept plan (port_at plan number port) (local_as new start o)) (sym here) kept

-- a port to another bridge is configured with the services of its end
pub end_kept : (plan : Plan) (number port : ℕ) (table new : ServiceTable) (e : End) → IsSound plan
    → HasServices plan table
    → None ≡ first (is_customer_at number port) plan.customers
    → Some e ≡ first (is_end_at number port) (all_ends plan) → is_taken table port ≡ false
    → new ≡ attached table e.port (Trunk (carried table e.services))
    → IsKept plan (port_at plan number port) (local_as new e.start (kind_at new port))
end_kept plan number port table new e sound h nobody found free a =
    let there = end_there plan number port e sound found in
    let here : kind_at new port ≡ Some (Trunk (carried table e.services)) =
    ap (λ (t : ServiceTable). kind_at t port)
    (a ∙ ap (λ n. attached table n (Trunk (carried table e.services))) there.1)
    ∙ kind-here table port (Trunk (carried table e.services)) free in
    let carries : (v : ℕ) → serves_of (vids_of new (carried table e.services)) v ≡ serves plan v e =
    λ v. carried-serves plan table new e.services v h (ap (λ (t : ServiceTable). t.services) a)
    (listed-sound plan e e.services refl there.0) in
    subst (λ (o : Option PortKind). IsKept plan (port_at plan number port) (local_as new e.start o)) (sym here)
    (subst (λ o. IsKept plan (customer_or_else o (provider_or_unused (first (is_end_at number port) (all_ends plan))))
    (local_as new e.start (Some (Trunk (carried table e.services))))) nobody
    (subst (λ o. IsKept plan (provider_or_unused o) (local_as new e.start (Some (Trunk (carried table e.services)))))
    found (refl, carries)))

-- with the same services a kind gives the same local port
as-same : (t u : ServiceTable) (start : PortState) (kind : Option PortKind) → t.services ≡ u.services
    → local_as t start kind ≡ local_as u start kind
as-same t u start (Some (Trunk None)) e = ap (λ ss. ToBridge start (map (λ s. s.0) ss)) e
as-same t u start _ e = refl

-- one more local port is in the services
pub attached_more : (plan : Plan) (number : ℕ) (old new : ServiceTable) (starts : List PortState) (r : ℕ)
    (start : PortState) → r < 16 → HasAttached plan number old starts r
    → new.services ≡ old.services → ((p : ℕ) → (p == r + 1) ≡ false → kind_at new p ≡ kind_at old p)
    → IsKept plan (port_at plan number (r + 1)) (local_as new start (kind_at new (r + 1)))
    → HasAttached plan number new (set starts r start) (r + 1)
attached_more plan number old new starts r start few h e others here = record {
  services = e ∙ h.services;
  count = length-set _ _ _ ∙ h.count;
  kept = λ k l. elim (k == r) as (λ b. (k == r) ≡ b → IsKept plan (port_at plan number (k + 1))
      (local_of new (set starts r start) (k + 1))) [
        | true ↦ λ t. let same_place : r ≡ k = sym (eqb-true k r t) in subst
            (λ (n : ℕ). IsKept plan (port_at plan number (n + 1)) (local_of new (set starts r start) (n + 1)))
            same_place
            newest
        | false ↦ λ t. let below : k < r = omega (arith, l, eqb-false k r t) in subst
            (IsKept plan (port_at plan number (k + 1))) (sym (older k below)) (h.kept k below)
      ] refl;
  free = λ p l. others p (ne_eqb p (r + 1) (λ e. omega (arith, l, e))) ∙ h.free p (omega (arith, l));
}
  where
    place : (k : ℕ) → k + 1 - 1 ≡ k
    place k = omega arith

    newest : IsKept plan (port_at plan number (r + 1)) (local_of new (set starts r start) (r + 1))
    newest =
        let at : get_or (set starts r start) (r + 1 - 1) Discarding ≡ start =
        ap (λ n. get_or (set starts r start) n Discarding) (place r)
        ∙ get_or-set_same starts r start Discarding (omega (arith, h.count)) in
        subst (λ (s : PortState). IsKept plan (port_at plan number (r + 1)) (local_as new s (kind_at new (r + 1))))
        (sym at) here

    older : (k : ℕ) → k < r → local_of new (set starts r start) (k + 1) ≡ local_of old starts (k + 1)
    older k l =
        let n : k ≢ r = omega arith in
        let at : get_or (set starts r start) (k + 1 - 1) Discarding ≡ get_or starts (k + 1 - 1) Discarding =
        ap (λ i. get_or (set starts r start) i Discarding) (place k) ∙ get_or-set_other starts r k start Discarding n
        ∙ ap (λ i. get_or starts i Discarding) (sym (place k)) in
        ap (λ (s : PortState). local_as new s (kind_at new (k + 1))) at
        ∙ ap (local_as new (get_or starts (k + 1 - 1) Discarding))
        (others (k + 1) (ne_eqb (k + 1) (r + 1) (λ e. omega (arith, l, e))))
        ∙ as-same new old (get_or starts (k + 1 - 1) Discarding) (kind_at old (k + 1)) e

-- after all sixteen ports the configuration is the plan's
pub attached_all : (plan : Plan) (number : ℕ) (table : ServiceTable) (starts : List PortState) (n : ℕ) → n ≡ 16
    → HasAttached plan number table starts n → KeepsPorts plan number (locals table starts) 16
attached_all plan number table starts n e h = record {
  count = locals-length table starts;
  kept = λ r l. let within : r < n = omega (arith, l, e) in
      let p : r + 1 - 1 ≡ r = omega arith in
      subst (IsKept plan (port_at plan number (r + 1)))
      (ap (λ i. local_as table (get_or starts i Discarding) (kind_at table (r + 1))) p
      ∙ sym (local_here table starts r l)) (h.kept r within);
}
