-- A bridge of a plan changes only its own ports to other bridges.
use Rattle.std.proofs.Common.{◌≡◌, ℕ, ◌≤◌, List, [], ◌∷◌, ◌++◌, refl, sym, ap, subst, Bool, true, false}
use Rattle.std.proofs.Common.{if◌then◌else◌, map, arith}
use Rattle.std.specs.declared.option.Option.{Option}
use Rattle.std.specs.List.{flat_map, filter, AllByRecursion}
use Rattle.pb_bpdu.specs.declared.bpdu.Bpdu.{Bpdu}
use Rattle.pb_lan.specs.Ports.{Port as LocalPort, port_at, is_provider, local_ports}
use Rattle.pb_lan.specs.Ports.Port.{Provider}
use Rattle.pb_lan.specs.Rules.{Cause, is_same}
use Rattle.pb_lan.specs.declared.plan.Plan.{Plan}
use Rattle.pb_lan.specs.declared.shape.PortState.{PortState}
use Rattle.pb_lan.specs.declared.step.Step.{Step}
use Rattle.pb_rstp.specs.Changes.{AreSamePorts, AreMoving}
use Rattle.pb_rstp.specs.Machine.{settle, moved_by}
use Rattle.pb_rstp.specs.Messages.{message_of}
use Rattle.pb_rstp.specs.Ports.{Machine, fresh}
use Rattle.pb_rstp.specs.Profile.{after, causes_of, rstp_port, rstp_ports, machine_at_start, machine_of}
use Rattle.pb_rstp.specs.Readings.{AreAbove}
use Rattle.pb_rstp.specs.Rising.{AreRising}
use Rattle.pb_rstp.specs.Settling.{nows, is_sending, settled, state_changes}
use Rattle.pb_rstp.specs.declared.change.Change.{Change}
use Rattle.pb_rstp.specs.declared.config.RstpPort.{RstpPort}
use Rattle.pb_rstp.specs.declared.moving.Heard.{Heard}
use Rattle.pb_rstp.specs.declared.moving.Moving.{Moving}
use Rattle.pb_rstp.specs.declared.port.Port.{Port}
use Rattle.pb_rstp.proofs.ChangeLaws.{settle_named}
use Rattle.pb_rstp.proofs.MovingLaws.{moving_settled, moving_by, rising-same}
use Rattle.pb_rstp.proofs.PlanLaws.{same_after, rising-ports, local_rise, local_few}
use Rattle.pb_rstp.proofs.CallLaws.{after-each}

-- all changes and BPDUs are those of ports with a property, and BPDUs are listed by rising port number
pub record IsOf (P : ℕ → Type 0) (change : Change) : Type 0 where
  pub states : AllByRecursion (λ (s : ℕ × PortState). P s.0) change.states
  pub send : AllByRecursion (λ (s : ℕ × Bpdu). P s.0) change.send
  pub rises : AreRising 0 (map (λ s. s.0) change.send)

-- changed states are those of the bridge's ports
states-of : (P : ℕ → Type 0) (ps : List Port) (ms : List Moving) → AreMoving ps ms
    → AllByRecursion (λ (p : Port). P p.number) ps
    → AllByRecursion (λ (s : ℕ × PortState). P s.0) (state_changes ms)
states-of P [] [] h a = tt
states-of P (p ∷ ps) (x ∷ xs) h a = by_test (is_same x.was.state x.now.state) (states-of P ps xs h.1 a.1)
  where
    by_test : (t : Bool) → AllByRecursion (λ (s : ℕ × PortState). P s.0) (state_changes xs)
        → AllByRecursion (λ (s : ℕ × PortState). P s.0)
        ((if t then [] else ((x.now.number, x.now.state) ∷ [])) ++ state_changes xs)
    by_test true rest = rest
    by_test false rest = (subst P (sym h.0.1.number) a.0, rest)
states-of _ _ _ h a = absurd h

-- BPDUs are those of the bridge's ports
sent-of : (P : ℕ → Type 0) (id : ℕ) (all : List Port) (ps : List Port) (ms : List Moving) → AreMoving ps ms
    → AllByRecursion (λ (p : Port). P p.number) ps
    → AllByRecursion (λ (s : ℕ × Bpdu). P s.0)
    (map (λ (p : Port). (p.number, message_of id all p)) (filter is_sending (nows ms)))
sent-of P id all [] [] h a = tt
sent-of P id all (p ∷ ps) (x ∷ xs) h a = by_test (is_sending x.now) (sent-of P id all ps xs h.1 a.1)
  where
    by_test : (t : Bool) → AllByRecursion (λ (s : ℕ × Bpdu). P s.0)
        (map (λ (p : Port). (p.number, message_of id all p)) (filter is_sending (nows xs)))
        → AllByRecursion (λ (s : ℕ × Bpdu). P s.0)
        (map (λ (p : Port). (p.number, message_of id all p))
        (if t then x.now ∷ filter is_sending (nows xs) else filter is_sending (nows xs)))
    by_test true rest = (subst P (sym h.0.1.number) a.0, rest)
    by_test false rest = rest
sent-of _ id all _ _ h a = absurd h

-- the changes of a call are those of the bridge's ports
settle_of : (P : ℕ → Type 0) (prompt : Bool) (id hello_when : ℕ) (heard : Option Heard) (ps : List Port)
    (ms : List Moving) → AreMoving ps ms
    → AllByRecursion (λ (p : Port). P p.number) ps → AreRising 0 (map (λ p. p.number) ps)
    → IsOf P (settle prompt id hello_when heard ms).change
settle_of P prompt id hello_when heard ps ms h a r =
    let all = settled prompt id heard ms in
    let moving = moving_settled prompt id heard ps ms h in
    record {
      states = states-of P ps all moving a;
      send = sent-of P id (nows all) ps all moving a;
      rises = (settle_named prompt id hello_when hello_when heard ps ms h r).send_rises;
    }

-- the same after every cause
after_of : (P : ℕ → Type 0) (machine : Machine) (cause : Cause)
    → AllByRecursion (λ (p : Port). P p.number) machine.ports → AreRising 0 (map (λ p. p.number) machine.ports)
    → IsOf P (after machine cause).change
after_of P machine cause a r =
    after-each (λ z. IsOf P z.change) machine (record { states = tt; send = tt; rises = (tt, tt) })
    (λ hello_when heard change same. settle_of P machine.prompt machine.id hello_when heard machine.ports
    (moved_by change machine.ports)
    (moving_by change same machine.ports) a r) cause

-- a property of port numbers holds for the ports after a call too
same-of : (P : ℕ → Type 0) (ps qs : List Port) → AreSamePorts ps qs → AllByRecursion (λ (p : Port). P p.number) ps
    → AllByRecursion (λ (p : Port). P p.number) qs
same-of P [] [] h a = tt
same-of P (p ∷ ps) (q ∷ qs) h a = (subst P (sym h.0.number) a.0, same-of P ps qs h.1 a.1)
same-of _ _ _ h a = absurd h

-- a local port leads to another bridge
abbrev pub GoesToBridge : (ℕ → LocalPort) → ℕ → Type 0
GoesToBridge at port = (is_provider (at port) ≡ true) × (1 ≤ port) × (port ≤ 16)

-- the ports that take part in the spanning tree lead to other bridges
ports-of : (at : ℕ → LocalPort) (ns : List ℕ) → AllByRecursion (λ n. (1 ≤ n) × (n ≤ 16)) ns
    → AllByRecursion (λ (p : Port). GoesToBridge at p.number) (map fresh (flat_map (λ k. rstp_port k (at k)) ns))
ports-of at [] h = tt
ports-of at (k ∷ ks) h = by_port (at k) refl (ports-of at ks h.1)
  where
    by_port : (o : LocalPort) → at k ≡ o
        → AllByRecursion (λ (p : Port). GoesToBridge at p.number) (map fresh (flat_map (λ i. rstp_port i (at i)) ks))
        → AllByRecursion (λ (p : Port). GoesToBridge at p.number)
        (map fresh (rstp_port k o ++ flat_map (λ i. rstp_port i (at i)) ks))
    by_port (Provider end) e rest = ((ap is_provider e, h.0.0, h.0.1), rest)
    by_port _ e rest = rest

-- a bridge of a plan changes only its ports to other bridges
pub plan_changes : (plan : Plan) (bridge : ℕ) (steps : List Step) (cause : Cause)
    → IsOf (GoesToBridge (port_at plan bridge)) (after (machine_of plan bridge steps) cause).change
plan_changes plan bridge steps cause =
    let same = same_after (machine_at_start plan bridge) (flat_map causes_of steps) in
    let rises = rising-ports (λ port. port_at plan bridge port) 0 0 (omega arith) local_ports local_rise in
    after_of (GoesToBridge (port_at plan bridge)) (machine_of plan bridge steps) cause
    (same-of (GoesToBridge (port_at plan bridge)) (machine_at_start plan bridge).ports
    (machine_of plan bridge steps).ports same (ports-of (port_at plan bridge) local_ports local_few))
    (rising-same 0 0 refl (machine_at_start plan bridge).ports (machine_of plan bridge steps).ports same rises)

-- the ports at the start have the given numbers
numbers-fresh : (ps : List RstpPort) → map (λ p. p.number) (map fresh ps) ≡ map (λ p. p.port) ps
numbers-fresh [] = refl
numbers-fresh (p ∷ ps) = ap (λ ns. p.port ∷ ns) (numbers-fresh ps)

-- the ports of a bridge of a plan have rising numbers
pub plan_ports_rise : (plan : Plan) (bridge : ℕ) → AreAbove 0 (rstp_ports plan bridge)
plan_ports_rise plan bridge =
    subst (AreRising 0) (numbers-fresh (rstp_ports plan bridge))
    (rising-ports (λ port. port_at plan bridge port) 0 0 (omega arith) local_ports local_rise)
