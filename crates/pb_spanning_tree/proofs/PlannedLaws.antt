-- The bridges of a plan after any steps are planned, and form its spanning tree once they have converged.
use Rattle.std.proofs.Common.{◌≡◌, inl, inr, ℕ, suc, ◌+◌, ◌<◌, List, [], ◌∷◌, ◌++◌, Some, refl}
use Rattle.std.proofs.Common.{sym, ap, ◌∙◌, Bool, true, false, ◌==◌, ◌&&◌, map, slice_get, arith, not, nat_eq}
use Rattle.std.proofs.Common.{unwrap_or, subst, eqb-true, length}
use Rattle.std.specs.List.{AllByRecursion, IsDistinct, flat_map}
use Rattle.std.specs.Option.{option_map_or, option_map}
use Rattle.pb_frame.proofs.Lists.{All-imply, All-every, All-placed, Some-injective, eqb-refl, true-false}
use Rattle.pb_frame.specs.Admission.{same}
use Rattle.pb_frame.specs.Frames.{AreOctets}
use Rattle.pb_lan.proofs.PortsInPlans.{IsEndOf, OnLink, port_at-end, sound-end, end_at}
use Rattle.pb_lan.proofs.Rulings.{local-listed}
use Rattle.pb_lan.specs.Numbering.{numbered, numbers_from}
use Rattle.pb_lan.specs.Plans.{IsSound}
use Rattle.pb_lan.specs.Ports.{Port as LocalPort, port_at, local_ports}
use Rattle.pb_lan.specs.Ports.Port.{Customer, Provider, Unused}
use Rattle.pb_lan.specs.Rules.{Cause}
use Rattle.pb_lan.specs.declared.plan.Plan.{Plan}
use Rattle.pb_lan.specs.declared.plan.BridgePlan.{BridgePlan}
use Rattle.pb_lan.specs.declared.plan.End.{End}
use Rattle.pb_lan.specs.declared.plan.LinkPlan.{LinkPlan}
use Rattle.pb_lan.specs.declared.step.Step.{Step}
use Rattle.pb_rstp.proofs.ForestLaws.{numbered-only, plus-suc}
use Rattle.pb_rstp.proofs.MovingLaws.{port_of-cons}
use Rattle.pb_rstp.proofs.PlanLaws.{calls_keep_bridges, same_after, found-port, port_for, planned_are_machines}
use Rattle.pb_rstp.specs.Changes.{AreSamePorts, IsSamePort}
use Rattle.pb_rstp.specs.Ports.{Machine, fresh, port_of}
use Rattle.pb_rstp.specs.Profile.{after, causes_of, id_in, machine_after, machine_at_start, machine_of, plan_id}
use Rattle.pb_rstp.specs.Profile.{rstp_port}
use Rattle.pb_rstp.specs.Tree.{machines_of}
use Rattle.pb_rstp.specs.Vectors.{bridge_id}
use Rattle.pb_rstp.specs.declared.port.Port.{Port}
use Rattle.pb_spanning_tree.specs.Laws.{AreAtLinks, AreDisabled, HasPriority, IsAtLink, IsDisabledIn}
use Rattle.pb_spanning_tree.proofs.OneTree.{one_tree}
use Rattle.pb_spanning_tree.specs.Planned.{ConvergedTree, PlannedArePlanned, disabled_by}

-- Identifiers.

-- after any causes a bridge has the same identifier
id-after : (machine : Machine) (causes : List Cause) → (machine_after machine causes).id ≡ machine.id
id-after machine [] = refl
id-after machine (cause ∷ causes) =
    id-after (after machine cause).machine causes ∙ (calls_keep_bridges machine cause).id

-- values at the numbers of a list's entries are values of its entries
map-numbers : {X Y : Type 0} (f : ℕ → Y) (g : X → Y) (k : ℕ) (xs : List X)
    → ((i : ℕ) (x : X) → slice_get xs i ≡ Some x → f (k + i) ≡ g x)
    → map f (numbers_from k xs) ≡ map g xs
map-numbers f g k [] h = refl
map-numbers f g k (x ∷ xs) h =
    let head : f k ≡ g x = ap f (omega arith) ∙ h 0 x refl in
    let tail : map f (numbers_from (k + 1) xs) ≡ map g xs =
    map-numbers f g (k + 1) xs (λ i y e. ap f (plus-suc k i) ∙ h (suc i) y e) in cc

-- the bridges have the plan's identifiers, in its order
ids : (plan : Plan) (past : ℕ → List Step) (xs : List ℕ)
    → map (λ m. m.id) (map (λ bridge. machine_of plan bridge (past bridge)) xs) ≡ map (id_in plan) xs
ids plan past [] = refl
ids plan past (b ∷ bs) =
    let head = id-after (machine_at_start plan b) (flat_map causes_of (past b)) in
    let tail = ids plan past bs in cc

ids-planned : (plan : Plan) (past : ℕ → List Step) → map (λ m. m.id) (machines_of plan past) ≡ map plan_id plan.bridges
ids-planned plan past =
    ids plan past (numbers_from 1 plan.bridges) ∙ map-numbers (id_in plan) plan_id 1 plan.bridges here
  where
    here : (i : ℕ) (b : BridgePlan) → slice_get plan.bridges i ≡ Some b → id_in plan (1 + i) ≡ plan_id b
    here i b e =
        let one : 1 + i ≡ suc i = omega arith in
        ap (id_in plan) one ∙ ap (λ o. unwrap_or (option_map plan_id o) 0) e

-- numbers of six octets with different addresses differ
apart : (p q a b c d e f g h i j k l : ℕ) → a < 256 → b < 256 → c < 256 → d < 256 → e < 256 → f < 256
    → g < 256 → h < 256 → i < 256 → j < 256 → k < 256 → l < 256
    → bridge_id p (a ∷ b ∷ c ∷ d ∷ e ∷ f ∷ []) ≡ bridge_id q (g ∷ h ∷ i ∷ j ∷ k ∷ l ∷ [])
    → (a ≡ g) × (b ≡ h) × (c ≡ i) × (d ≡ j) × (e ≡ k) × (f ≡ l)
apart p q a b c d e f g h i j k l aa bb cx dd ee ff gg hh ii jj kk ll same =
    (omega arith, omega arith, omega arith, omega arith, omega arith, omega arith)

-- a text is equal to itself
same-refl : (x : List ℕ) → same x x ≡ true
same-refl [] = refl
same-refl (o ∷ x) = ap (λ t. t && same x x) (eqb-refl o) ∙ same-refl x

-- addresses of six octets that are different have different numbers
addresses-apart : (a b : BridgePlan) → length a.address.0 ≡ 6 → AreOctets a.address.0 → length b.address.0 ≡ 6
    → AreOctets b.address.0 → plan_id a ≡ plan_id b → a.address.0 ≡ b.address.0
addresses-apart a b n o m q e = octets-apart a.priority b.priority a.address.0 b.address.0 n o m q e
  where
    octets-apart : (p q : ℕ) (xs ys : List ℕ) → length xs ≡ 6 → AreOctets xs → length ys ≡ 6 → AreOctets ys
        → bridge_id p xs ≡ bridge_id q ys → xs ≡ ys
    octets-apart p q (a ∷ b ∷ c ∷ d ∷ e ∷ f ∷ []) (g ∷ h ∷ i ∷ j ∷ k ∷ l ∷ []) n x m y id =
        let s = apart p q a b c d e f g h i j k l x.0 x.1.0 x.1.1.0 x.1.1.1.0 x.1.1.1.1.0 x.1.1.1.1.1.0
        y.0 y.1.0 y.1.1.0 y.1.1.1.0 y.1.1.1.1.0 y.1.1.1.1.1.0 id in
        cc
    octets-apart p q _ _ n x m y id = absurd (omega arith)

-- a bridge whose address no other one has has an identifier that no other one has
id-unlike : (b : BridgePlan) (cs : List BridgePlan) → (length b.address.0 ≡ 6) × AreOctets b.address.0
    → AllByRecursion (λ c. (length c.address.0 ≡ 6) × AreOctets c.address.0) cs
    → AllByRecursion (λ y. same b.address.0 y ≡ false) (map (λ c. c.address.0) cs)
    → AllByRecursion (λ y. nat_eq (plan_id b) y ≡ false) (map plan_id cs)
id-unlike b [] g h d = tt
id-unlike b (c ∷ cs) g h d = (by_test (nat_eq (plan_id b) (plan_id c)) refl, id-unlike b cs g h.1 d.1)
  where
    by_test : (t : Bool) → nat_eq (plan_id b) (plan_id c) ≡ t → nat_eq (plan_id b) (plan_id c) ≡ false
    by_test false t = t
    by_test true t =
        let one : b.address.0 ≡ c.address.0 =
        addresses-apart b c g.0 g.1 h.0.0 h.0.1 (eqb-true (plan_id b) (plan_id c) t) in
        let equal : same b.address.0 c.address.0 ≡ true =
        subst (λ x. same b.address.0 x ≡ true) one (same-refl b.address.0) in
        absurd (true-false (same b.address.0 c.address.0) equal d.0)

-- Ports and links.

-- the port at an end of a link is at that link
at-link : (plan : Plan) (bridge port : ℕ) (e : End) → OnLink plan e → e.bridge ≡ bridge → e.port ≡ port
    → IsAtLink plan bridge port
at-link plan bridge port e (k, link, at, which) from through = by which
  where
    by : IsEndOf link e → IsAtLink plan bridge port
    by (inl h) = record {
      number = suc k;
      link = link;
      near = e;
      far = link.b;
      at = at;
      ends = inl (h, refl);
      from = from;
      through = through;
    }
    by (inr h) = record {
      number = suc k;
      link = link;
      near = e;
      far = link.a;
      at = at;
      ends = inr (h, refl);
      from = from;
      through = through;
    }

-- each port of a bridge is at an end of a link at the start
at-links-start : (plan : Plan) (bridge : ℕ) (ns : List ℕ)
    → AllByRecursion (λ p. IsAtLink plan bridge p.number)
    (map fresh (flat_map (λ k. rstp_port k (port_at plan bridge k)) ns))
at-links-start plan bridge [] = tt
at-links-start plan bridge (k ∷ ks) = by_port (port_at plan bridge k) refl (at-links-start plan bridge ks)
  where
    by_port : (o : LocalPort) → port_at plan bridge k ≡ o
        → AllByRecursion (λ p. IsAtLink plan bridge p.number)
        (map fresh (flat_map (λ k. rstp_port k (port_at plan bridge k)) ks))
        → AllByRecursion (λ p. IsAtLink plan bridge p.number)
        (map fresh (rstp_port k o ++ flat_map (λ k. rstp_port k (port_at plan bridge k)) ks))
    by_port (Provider e) is rest =
        let h = end_at plan bridge k e is in (at-link plan bridge k e h.0 h.1 h.2, rest)
    by_port (Customer c) is rest = rest
    by_port Unused is rest = rest

-- so is each port that is kept
at-links-kept : (plan : Plan) (bridge : ℕ) (ps qs : List Port) → AreSamePorts ps qs
    → AllByRecursion (λ p. IsAtLink plan bridge p.number) ps → AllByRecursion (λ p. IsAtLink plan bridge p.number) qs
at-links-kept plan bridge [] [] h a = tt
at-links-kept plan bridge (p ∷ ps) (q ∷ qs) h a =
    (subst (IsAtLink plan bridge) (sym h.0.number) a.0, at-links-kept plan bridge ps qs h.1 a.1)
at-links-kept plan bridge _ _ h a = absurd h

-- each port of each bridge is at an end of a link after any steps
at-links : (plan : Plan) (past : ℕ → List Step) → AreAtLinks plan (machines_of plan past)
at-links plan past bridge m at =
    let here = numbered-only (λ b. machine_of plan b (past b)) plan.bridges bridge m at in
    subst (λ (n : Machine). AllByRecursion (λ p. IsAtLink plan bridge p.number) n.ports) (sym here.2)
    (at-links-kept plan bridge (machine_at_start plan bridge).ports (machine_of plan bridge (past bridge)).ports
    (same_after (machine_at_start plan bridge) (flat_map causes_of (past bridge)))
    (at-links-start plan bridge local_ports))

-- Priorities.

-- a port that is found before is found after, with the same number, path cost and priority
found-kept : (k : ℕ) (ps qs : List Port) → AreSamePorts ps qs → (p q : Port) → port_of ps k ≡ Some p
    → port_of qs k ≡ Some q → IsSamePort p q
found-kept k [] [] h p q e f = cc
found-kept k (x ∷ xs) (y ∷ ys) h p q e f = by_test (x.number == k) refl (found-kept k xs ys h.1 p q)
  where
    by_test : (t : Bool) → (x.number == k) ≡ t
        → (port_of xs k ≡ Some p → port_of ys k ≡ Some q → IsSamePort p q) → IsSamePort p q
    by_test true t rest =
        let one : x ≡ p = Some-injective (sym (port_of-cons k x xs true t) ∙ e) in
        let other : y ≡ q =
        Some-injective (sym (port_of-cons k y ys true (ap (λ n. n == k) h.0.number ∙ t)) ∙ f) in
        subst (IsSamePort p) other (subst (λ z. IsSamePort z y) one h.0)
    by_test false t rest =
        rest (sym (port_of-cons k x xs false t) ∙ e)
        (sym (port_of-cons k y ys false (ap (λ n. n == k) h.0.number ∙ t)) ∙ f)
found-kept k _ _ h p q e f = absurd h

-- the port at an end of a link has the priority of the plan after any steps
has-priority : (plan : Plan) (past : ℕ → List Step) → IsSound plan → (k : ℕ) (link : LinkPlan) (e : End)
    → numbered plan.links k ≡ Some link → IsEndOf link e
    → HasPriority (machines_of plan past) e
has-priority plan past sound k link e at which m p stands =
    let limits = sound-end plan sound k link e at which in
    let found = found-port (λ port. port_at plan e.bridge port) e.port e (port_at-end plan sound k link e at which)
    local_ports (local-listed e.port limits.port) in
    let here = numbered-only (λ b. machine_of plan b (past b)) plan.bridges e.bridge m stands.machine in
    let port : port_of (machine_of plan e.bridge (past e.bridge)).ports e.port ≡ Some p =
    subst (λ (n : Machine). port_of n.ports e.port ≡ Some p) here.2 stands.port in
    (found-kept e.port (machine_at_start plan e.bridge).ports (machine_of plan e.bridge (past e.bridge)).ports
    (same_after (machine_at_start plan e.bridge) (flat_map causes_of (past e.bridge)))
    (port_for e.port e) p found port).priority

-- The laws.

-- the identifiers are distinct
distinct : (bridges : List BridgePlan) → AllByRecursion (λ b. (length b.address.0 ≡ 6) × AreOctets b.address.0) bridges
    → IsDistinct same (map (λ b. b.address.0) bridges) → IsDistinct nat_eq (map plan_id bridges)
unfolding IsDistinct
distinct [] h d = tt
distinct (b ∷ bs) h d = (id-unlike b bs h.0 h.1 d.0, distinct bs h.1 d.1)

-- after any steps the bridges are those of the plan
pub planned_are_planned : PlannedArePlanned
planned_are_planned plan past sound addresses = record {
  machines_are = planned_are_machines plan past sound;
  ids = ids-planned plan past;
  distinct = subst (IsDistinct nat_eq) (sym (ids-planned plan past))
      (distinct plan.bridges addresses sound.addresses);
  at_links = at-links plan past;
  priorities = All-imply (λ link. (i : ℕ) × (slice_get plan.links i ≡ Some link))
      (λ link. HasPriority (machines_of plan past) link.a × HasPriority (machines_of plan past) link.b)
      (λ link placed. (
        has-priority plan past sound (suc placed.0) link link.a placed.1 (inl refl),
        has-priority plan past sound (suc placed.0) link link.b placed.1 (inr refl),
      ))
      plan.links (All-placed plan.links);
}

-- the disabled ports of bridges are those that they have disabled themselves
is-disabled-in : (machines : List Machine) (e : End) → IsDisabledIn machines (disabled_by machines) e
is-disabled-in machines e m p stands =
    let one = ap (λ o. not (option_map_or (λ n. option_map_or (λ p. not p.port_enabled) (port_of n.ports e.port) true)
    o true)) stands.machine in
    let two = ap (λ o. not (option_map_or (λ q. not q.port_enabled) o true)) stands.port in
    twice p.port_enabled ∙ sym (one ∙ two)
  where
    twice : (b : Bool) → b ≡ not (not b)
    twice true = refl
    twice false = refl

-- so at each end of each link
pub are_disabled : (plan : Plan) (machines : List Machine) → AreDisabled plan machines (disabled_by machines)
are_disabled plan machines =
    All-every (λ link. IsDisabledIn machines (disabled_by machines) link.a
    × IsDisabledIn machines (disabled_by machines) link.b)
    (λ link. (is-disabled-in machines link.a, is-disabled-in machines link.b)) plan.links

-- bridges that have converged form the spanning tree of the plan and their own disabled ports
pub converged_tree : ConvergedTree
converged_tree plan past sound addresses converged none_held =
    one_tree plan (machines_of plan past) (disabled_by (machines_of plan past)) sound
    (planned_are_planned plan past sound addresses) (are_disabled plan (machines_of plan past)) converged none_held
