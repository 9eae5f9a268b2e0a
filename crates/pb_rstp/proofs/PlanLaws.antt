-- The bridges have the plan's ports after any steps.
use Rattle.std.proofs.Common.{◌≡◌, ℕ, zero, suc, ◌+◌, ◌≤◌, ◌<◌, List, [], ◌∷◌, ◌++◌, Some, refl, sym, ap, ◌∙◌, Bool}
use Rattle.std.proofs.Common.{true, false, ◌==◌, ◌||◌, map, length, inl, inr, slice_get, arith}
use Rattle.std.specs.List.{flat_map, list_any, AllByRecursion}
use Rattle.std.proofs.lemmas.Bool.{eqb-true}
use Rattle.pb_frame.proofs.Lists.{All-every, All-imply, All-map, All-placed, eqb-refl}
use Rattle.pb_frame.proofs.Things.{lt-not_same}
use Rattle.pb_lan.proofs.PortsInPlans.{IsEndOf, port_at-end, sound-end}
use Rattle.pb_lan.proofs.Rulings.{local-listed}
use Rattle.pb_lan.specs.Numbering.{numbered, numbers_from}
use Rattle.pb_lan.specs.Plans.{IsSound}
use Rattle.pb_lan.specs.Ports.{Port as LocalPort, port_at, local_ports}
use Rattle.pb_lan.specs.Ports.Port.{Provider}
use Rattle.pb_lan.specs.Rules.{Cause}
use Rattle.pb_lan.specs.declared.plan.Plan.{Plan}
use Rattle.pb_lan.specs.declared.plan.End.{End}
use Rattle.pb_lan.specs.declared.plan.LinkPlan.{LinkPlan}
use Rattle.pb_lan.specs.declared.step.Step.{Step}
use Rattle.pb_rstp.specs.Changes.{AreSamePorts, IsSameBridge}
use Rattle.pb_rstp.specs.Machine.{moved_by}
use Rattle.pb_rstp.specs.Ports.{Machine, fresh, port_of}
use Rattle.pb_rstp.specs.Profile.{after, causes_of, machine_after, rstp_port, machine_at_start, machine_of}
use Rattle.pb_rstp.specs.Rising.{AreRising}
use Rattle.pb_rstp.proofs.RisingLaws.{rises-above}
use Rattle.pb_rstp.specs.Tree.{HasPorts, HasPortAt, CallsKeepBridges, machines_of, PlannedAreMachines}
use Rattle.pb_rstp.specs.declared.port.Port.{Port}
use Rattle.pb_rstp.proofs.CallLaws.{after-each}
use Rattle.pb_rstp.proofs.ForestLaws.{numbered-at}
use Rattle.pb_rstp.proofs.MovingLaws.{same_port-trans, same_ports, is_same_bridge, moving_by, settle_same}
use Rattle.pb_rstp.proofs.MovingLaws.{rising-same, port_of-cons}

-- Calls keep a bridge's identifier and ports.

-- no call changes a bridge's identifier, or a port's number, path cost or priority
pub calls_keep_bridges : CallsKeepBridges
calls_keep_bridges machine cause =
    after-each (λ a. IsSameBridge machine a.machine) machine (is_same_bridge machine)
    (λ hello_when heard change same. settle_same machine.prompt machine.id machine.hello_when hello_when heard
    machine.ports
    (moved_by change machine.ports) (moving_by change same machine.ports)) cause

-- ports that are kept twice, one time after the other, are kept
pub same_ports-trans : (ps qs rs : List Port) → AreSamePorts ps qs → AreSamePorts qs rs → AreSamePorts ps rs
same_ports-trans [] [] rs h k = k
same_ports-trans (p ∷ ps) (q ∷ qs) [] h k = absurd k
same_ports-trans (p ∷ ps) (q ∷ qs) (r ∷ rs) h k = (same_port-trans p q r h.0 k.0, same_ports-trans ps qs rs h.1 k.1)
same_ports-trans _ _ rs h k = absurd h

-- after any causes the ports are the same as at first
pub same_after : (machine : Machine) (causes : List Cause)
    → AreSamePorts machine.ports (machine_after machine causes).ports
same_after machine [] = same_ports machine.ports
same_after machine (cause ∷ causes) =
    same_ports-trans machine.ports (after machine cause).machine.ports
    (machine_after (after machine cause).machine causes).ports
    (calls_keep_bridges machine cause).ports (same_after (after machine cause).machine causes)

-- Ports by number.

-- numbers that rise from n are all above it
pub all-above : (n m : ℕ) → m ≤ n → (ps : List Port) → AreRising n (map (λ p. p.number) ps)
    → AllByRecursion (λ p. m < p.number) ps
all-above n m below [] r = tt
all-above n m below (p ∷ ps) r = (omega (arith, r.0.0), all-above p.number m (omega (arith, r.0.0)) ps r.1)

-- a port in front of others with greater numbers hides none of them
pub found-behind : (p : Port) (ps qs : List Port) → AllByRecursion (λ q. p.number < q.number) qs
    → AllByRecursion (λ q. port_of ps q.number ≡ Some q) qs
    → AllByRecursion (λ q. port_of (p ∷ ps) q.number ≡ Some q) qs
found-behind p ps [] h k = tt
found-behind p ps (q ∷ qs) h k =
    (port_of-cons q.number p ps false (lt-not_same p.number q.number h.0) ∙ k.0, found-behind p ps qs h.1 k.1)

-- ports with rising numbers are each found by their own number
pub rising-distinct : (n : ℕ) (ps : List Port) → AreRising n (map (λ p. p.number) ps)
    → AllByRecursion (λ p. port_of ps p.number ≡ Some p) ps
rising-distinct n [] r = tt
rising-distinct n (p ∷ ps) r = (
  port_of-cons p.number p ps true (eqb-refl p.number),
  found-behind p ps ps (all-above p.number p.number (omega arith) ps r.1) (rising-distinct p.number ps r.1),
)

-- ports that are kept have numbers from 1 to 255 too
pub small-same : (ps qs : List Port) → AreSamePorts ps qs → AllByRecursion (λ p. (1 ≤ p.number) × (p.number < 256)) ps
    → AllByRecursion (λ p. (1 ≤ p.number) × (p.number < 256)) qs
small-same [] [] h s = tt
small-same (p ∷ ps) (q ∷ qs) h s =
    ((omega (arith, s.0.0, h.0.number), omega (arith, s.0.1, h.0.number)), small-same ps qs h.1 s.1)
small-same _ _ h s = absurd h

-- a port that is found before is found after, with the same path cost
pub found-same : (k : ℕ) (ps qs : List Port) → AreSamePorts ps qs → (p : Port) → port_of ps k ≡ Some p
    → (q : Port) × (port_of qs k ≡ Some q) × (q.cost ≡ p.cost)
found-same k [] [] h p e = cc
found-same k (x ∷ xs) (y ∷ ys) h p e = by_test (x.number == k) refl (λ f. found-same k xs ys h.1 p f)
  where
    by_test : (t : Bool) → (x.number == k) ≡ t
        → (port_of xs k ≡ Some p → (q : Port) × (port_of ys k ≡ Some q) × (q.cost ≡ p.cost))
        → (q : Port) × (port_of (y ∷ ys) k ≡ Some q) × (q.cost ≡ p.cost)
    by_test true t rest =
        let same : x ≡ p = let f : Some x ≡ Some p = sym (port_of-cons k x xs true t) ∙ e in cc in
        (y, port_of-cons k y ys true (ap (λ n. n == k) h.0.number ∙ t), h.0.cost ∙ ap (λ (z : Port). z.cost) same)
    by_test false t rest =
        let found = rest (sym (port_of-cons k x xs false t) ∙ e) in
        (found.0, port_of-cons k y ys false (ap (λ n. n == k) h.0.number ∙ t) ∙ found.1, found.2)
found-same k _ _ h p e = absurd h

-- The ports of a plan.

-- the ports of a bridge that take part in the spanning tree have rising numbers
pub rising-ports : (at : ℕ → LocalPort) (n m : ℕ) → m ≤ n → (ns : List ℕ) → AreRising n ns
    → AreRising m (map (λ p. p.number) (map fresh (flat_map (λ k. rstp_port k (at k)) ns)))
rising-ports at n m below [] r = (tt, tt)
rising-ports at n m below (k ∷ ks) r =
    by_port (at k) (rising-ports at k m (omega (arith, r.0.0)) ks r.1) (rising-ports at k k (omega arith) ks r.1)
  where
    by_port : (o : LocalPort) → AreRising m (map (λ p. p.number) (map fresh (flat_map (λ i. rstp_port i (at i)) ks)))
        → AreRising k (map (λ p. p.number) (map fresh (flat_map (λ i. rstp_port i (at i)) ks)))
        → AreRising m (map (λ p. p.number) (map fresh (rstp_port k o ++ flat_map (λ i. rstp_port i (at i)) ks)))
    by_port (Provider e) skip take = rises-above m k (omega (arith, r.0.0))
        (map (λ p. p.number) (map fresh (flat_map (λ i. rstp_port i (at i)) ks))) take
    by_port _ skip take = skip

-- these ports have numbers from 1 to 255
pub small-ports : (at : ℕ → LocalPort) (ns : List ℕ) → AllByRecursion (λ n. (1 ≤ n) × (n < 256)) ns
    → AllByRecursion (λ p. (1 ≤ p.number) × (p.number < 256)) (map fresh (flat_map (λ k. rstp_port k (at k)) ns))
small-ports at [] h = tt
small-ports at (k ∷ ks) h = by_port (at k) (small-ports at ks h.1)
  where
    by_port : (o : LocalPort)
        → AllByRecursion (λ p. (1 ≤ p.number) × (p.number < 256)) (map fresh (flat_map (λ i. rstp_port i (at i)) ks))
        → AllByRecursion (λ p. (1 ≤ p.number) × (p.number < 256))
        (map fresh (rstp_port k o ++ flat_map (λ i. rstp_port i (at i)) ks))
    by_port (Provider e) rest = (h.0, rest)
    by_port _ rest = rest

-- the port at an end of a link, at the start
abbrev pub port_for : ℕ → End → Port
port_for k e = fresh (record { port = k; cost = e.cost; priority = e.priority })

-- the bridge of a link end has that port
pub found-port : (at : ℕ → LocalPort) (k : ℕ) (e : End) → at k ≡ Provider e → (ns : List ℕ)
    → list_any (λ n. n == k) ns ≡ true
    → port_of (map fresh (flat_map (λ n. rstp_port n (at n)) ns)) k ≡ Some (port_for k e)
found-port at k e is [] listed = cc
found-port at k e is (n ∷ ns) listed = by_test (n == k) refl (found-port at k e is ns)
  where
    by_port : (o : LocalPort) → (n == k) ≡ false
        → port_of (map fresh (flat_map (λ i. rstp_port i (at i)) ns)) k ≡ Some (port_for k e)
        → port_of (map fresh (rstp_port n o ++ flat_map (λ i. rstp_port i (at i)) ns)) k ≡ Some (port_for k e)
    by_port (Provider f) t rest = port_of-cons k (port_for n f) (map fresh (flat_map (λ i. rstp_port i (at i)) ns))
        false t ∙ rest
    by_port _ t rest = rest

    by_test : (t : Bool) → (n == k) ≡ t
        → (list_any (λ i. i == k) ns ≡ true → port_of (map fresh (flat_map (λ i. rstp_port i (at i)) ns)) k ≡ Some
        (port_for k e))
        → port_of (map fresh (rstp_port n (at n) ++ flat_map (λ i. rstp_port i (at i)) ns)) k ≡ Some (port_for k e)
    by_test true t rest =
        let same : n ≡ k = eqb-true n k t in
        let here : at n ≡ Provider e = ap at same ∙ is in
        ap (λ o. port_of (map fresh (rstp_port n o ++ flat_map (λ i. rstp_port i (at i)) ns)) k) here
        ∙ port_of-cons k (port_for n e) (map fresh (flat_map (λ i. rstp_port i (at i)) ns)) true t
        ∙ ap (λ i. Some (port_for i e)) same
    by_test false t rest = by_port (at n) t (rest (sym (ap (λ b. b || list_any (λ i. i == k) ns) t) ∙ listed))

-- n numbers from k on
abbrev pub up_from : ℕ → ℕ → List ℕ
up_from k zero = []
up_from k (suc n) = k ∷ up_from (k + 1) n

-- these numbers rise
pub rising-up : (k n : ℕ) → AreRising k (up_from (k + 1) n)
rising-up k zero = (tt, tt)
rising-up k (suc n) = rises-above k (k + 1) (omega arith) (up_from (k + 1 + 1) n) (rising-up (k + 1) n)

-- the numbers of local ports rise
pub local_rise : AreRising 0 local_ports
local_rise = rising-up 0 16

-- n numbers from k on are at most 16, if k + n is at most 17
pub few-up : (k n : ℕ) → 1 ≤ k → k + n ≤ 17 → AllByRecursion (λ m. (1 ≤ m) × (m ≤ 16)) (up_from k n)
few-up k zero least most = tt
few-up k (suc n) least most = ((least, omega (arith, most)), few-up (k + 1) n (omega arith) (omega (arith, most)))

-- the numbers of local ports are 1 to 16
pub local_few : AllByRecursion (λ n. (1 ≤ n) × (n ≤ 16)) local_ports
local_few = few-up 1 16 (omega arith) (omega arith)

-- The bridges of a network.

-- a bridge of the plan has different port numbers from 1 to 255, after any steps
pub has_ports : (plan : Plan) (bridge : ℕ) (steps : List Step) → HasPorts (machine_of plan bridge steps)
has_ports plan bridge steps =
    let same = same_after (machine_at_start plan bridge) (flat_map causes_of steps) in
    let rises = rising-ports (λ port. port_at plan bridge port) 0 0 (omega arith) local_ports local_rise in
    record {
      distinct = rising-distinct 0 (machine_of plan bridge steps).ports
          (rising-same 0 0 refl (machine_at_start plan bridge).ports (machine_of plan bridge steps).ports same rises);
      small = small-same (machine_at_start plan bridge).ports (machine_of plan bridge steps).ports same
          (small-ports (λ port. port_at plan bridge port) local_ports
          (All-imply (λ n. (1 ≤ n) × (n ≤ 16)) (λ n. (1 ≤ n) × (n < 256)) (λ n h. (h.0, omega (arith, h.1)))
          local_ports local_few));
    }

-- the bridge at an end of a link has a port there with the plan's path cost, after any steps
pub has_port_at : (plan : Plan) (past : ℕ → List Step) → IsSound plan → (k : ℕ) (link : LinkPlan) (e : End)
    → numbered plan.links k ≡ Some link → IsEndOf link e
    → HasPortAt (machines_of plan past) e
has_port_at plan past sound k link e at which =
    let limits = sound-end plan sound k link e at which in
    let found = found-port (λ port. port_at plan e.bridge port) e.port e (port_at-end plan sound k link e at which)
    local_ports (local-listed e.port limits.port) in
    let machine = machine_of plan e.bridge (past e.bridge) in
    let again = found-same e.port (machine_at_start plan e.bridge).ports machine.ports
    (same_after (machine_at_start plan e.bridge) (flat_map causes_of (past e.bridge))) (port_for e.port e) found in (
      machine,
      again.0,
      record {
        machine = numbered-at (λ bridge. machine_of plan bridge (past bridge)) plan.bridges
            e.bridge limits.bridge.0 limits.bridge.1;
        port = again.1;
      },
      again.2,
    )

-- there is one bridge of the network for each of the plan
pub length-machines : (plan : Plan) (past : ℕ → List Step) {X : Type 0} (k : ℕ) (xs : List X)
    → length (map (λ bridge. machine_of plan bridge (past bridge)) (numbers_from k xs)) ≡ length xs
length-machines plan past k [] = refl
length-machines plan past k (x ∷ xs) = ap suc (length-machines plan past (k + 1) xs)

-- after any steps the bridges are those of the plan
pub planned_are_machines : PlannedAreMachines
planned_are_machines plan past sound = record {
  count = length-machines plan past 1 plan.bridges;
  ports = All-map HasPorts (λ bridge. machine_of plan bridge (past bridge)) (numbers_from 1 plan.bridges)
      (All-every (λ bridge. HasPorts (machine_of plan bridge (past bridge)))
      (λ bridge. has_ports plan bridge (past bridge)) (numbers_from 1 plan.bridges));
  ends = All-imply (λ link. (i : ℕ) × (slice_get plan.links i ≡ Some link))
      (λ link. HasPortAt (machines_of plan past) link.a × HasPortAt (machines_of plan past) link.b)
      (λ link placed. (
        has_port_at plan past sound (suc placed.0) link link.a placed.1 (inl refl),
        has_port_at plan
            past sound (suc placed.0) link link.b placed.1 (inr refl),
      ))
      plan.links (All-placed plan.links);
}
