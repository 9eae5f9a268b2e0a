-- A call keeps its ports' numbers, path costs and priorities.
use Rattle.std.proofs.Common.{◌≡◌, ℕ, ◌≤◌, List, [], ◌∷◌, Some, None, refl, sym, ap, ◌∙◌, subst, Bool, true, false}
use Rattle.std.proofs.Common.{is_some, nat_lt, ◌-◌, ◌==◌, ◌&&◌, not, if◌then◌else◌, map, arith}
use Rattle.std.specs.declared.option.Option.{Option}
use Rattle.std.specs.List.{list_any, AllByRecursion}
use Rattle.std.proofs.lemmas.Bool.{eqb-true}
use Rattle.pb_bpdu.specs.declared.bpdu.Bpdu.{Bpdu}
use Rattle.pb_frame.proofs.Lists.{Some-injective}
use Rattle.pb_lan.specs.declared.shape.PortState.{PortState}
use Rattle.pb_lan.specs.declared.shape.PortState.TheVariants.{Forwarding}
use Rattle.pb_frame.specs.Lists.{first}
use Rattle.pb_rstp.specs.Changes.{IsSamePort, AreSamePorts, AreMoving, IsSameBridge}
use Rattle.pb_rstp.specs.Machine.{moved_by, settle, takes_place, with_news, has_agreed, with_answer, hearing}
use Rattle.pb_rstp.specs.Machine.{with_timers, opened_by, opened, with_opening, is_hello, with_hello, ticking}
use Rattle.pb_rstp.specs.Machine.{with_admin, setting, own_change}
use Rattle.pb_rstp.specs.Messages.{is_young, info_of}
use Rattle.pb_rstp.specs.Ports.{Machine, is_designated, fwd_delay_of, port_of}
use Rattle.pb_lan.specs.Shapes.{is_forwarding}
use Rattle.pb_rstp.specs.Rising.{AreRising}
use Rattle.pb_rstp.proofs.RisingLaws.{rises-above}
use Rattle.pb_rstp.specs.Roles.{root_vector}
use Rattle.pb_rstp.specs.Vectors.{is_same_vector}
use Rattle.pb_rstp.specs.Settling.{befores, nows, each, with_role, with_roles, without_agreement, with_agreements}
use Rattle.pb_rstp.specs.Settling.{without_info, with_infos, with_state, with_states, synced, agreeing}
use Rattle.pb_rstp.specs.Settling.{with_agreement_at, with_proposal, is_proposed, is_root_agreeing, with_tc_while}
use Rattle.pb_rstp.specs.Settling.{with_topology, after_sending, with_sent, in_line, settled, with_update}
use Rattle.pb_rstp.specs.Settling.{with_updates, offer_by}
use Rattle.pb_rstp.specs.declared.moving.Heard.{Heard}
use Rattle.pb_rstp.specs.declared.moving.Moving.{Moving}
use Rattle.pb_rstp.specs.declared.own_change.OwnChange.{OwnChange}
use Rattle.pb_rstp.specs.declared.own_change.OwnChange.TheVariants.{Hearing, Ticking, Setting}
use Rattle.pb_rstp.specs.declared.port.Port.{Port}
use Rattle.pb_rstp.specs.declared.vector.Vector.{Vector}
use Rattle.pb_rstp.proofs.RoleLaws.{Keeps, keeps-agreement, keeps-state, keeps-synced, keeps-agreeing, keeps-tc_while}
use Rattle.pb_rstp.proofs.RoleLaws.{keeps-sending, keeps-update}

-- a port is the same as itself
pub is_same_port : (p : Port) → IsSamePort p p
is_same_port p = record { number = refl; cost = refl; priority = refl }

-- two changes that keep a port, one after the other, keep it
pub same_port-trans : (p q r : Port) → IsSamePort p q → IsSamePort q r → IsSamePort p r
same_port-trans p q r h k = record {
  number = k.number ∙ h.number;
  cost = k.cost ∙ h.cost;
  priority = k.priority ∙ h.priority;
}

-- of two changes that keep a port, either choice keeps it
pub same_port-if : (b : Bool) (p q r : Port) → IsSamePort p q → IsSamePort p r → IsSamePort p (if b then q else r)
same_port-if true p q r hq hr = hq
same_port-if false p q r hq hr = hr

-- a change that keeps what roles depend on keeps the port
of_keeps : (p q : Port) → Keeps p q → IsSamePort p q
of_keeps p q k = record { number = k.seen.number; cost = k.seen.cost; priority = k.seen.priority }

-- ports are the same as themselves
pub same_ports : (ps : List Port) → AreSamePorts ps ps
same_ports [] = tt
same_ports (p ∷ ps) = (is_same_port p, same_ports ps)

-- Ports during a call.

-- a change that keeps each port keeps the ports of a call
pub moving-each : (f : Port → Port → Port) → ((was now : Port) → IsSamePort now (f was now))
    → (ps : List Port) (ms : List Moving)
    → AreMoving ps ms → AreMoving ps (each f ms)
moving-each f same [] [] h = tt
moving-each f same (p ∷ ps) (m ∷ ms) h =
    ((h.0.0, same_port-trans p m.now (f m.was m.now) h.0.1 (same m.was m.now)), moving-each f same ps ms h.1)
moving-each f same _ _ h = absurd h

-- of two lists that keep the ports, either choice keeps them
moving-if : (b : Bool) (ps : List Port) (ms ns : List Moving) → AreMoving ps ms → AreMoving ps ns
    → AreMoving ps (if b then ms else ns)
moving-if true ps ms ns hm hn = hm
moving-if false ps ms ns hm hn = hn

-- a call's own change keeps the ports
pub moving_by : (change : Port → Port) → ((p : Port) → IsSamePort p (change p)) → (ps : List Port)
    → AreMoving ps (moved_by change ps)
moving_by change same [] = tt
moving_by change same (p ∷ ps) = ((refl, same p), moving_by change same ps)

-- the ports of a call are the same as before it
pub moving_now : (ps : List Port) (ms : List Moving) → AreMoving ps ms → AreSamePorts ps (nows ms)
moving_now [] [] h = tt
moving_now (p ∷ ps) (m ∷ ms) h = (h.0.1, moving_now ps ms h.1)
moving_now _ _ h = absurd h

-- a call keeps its ports as they were before it
pub moving_before : (ps : List Port) (ms : List Moving) → AreMoving ps ms → befores ms ≡ ps
moving_before [] [] h = refl
moving_before (p ∷ ps) (m ∷ ms) h = let tail = moving_before ps ms h.1 in let head = h.0.0 in cc
moving_before _ _ h = absurd h

-- Each stage.

-- stage 1 keeps the ports
pub moving_first : (id : ℕ) (ps : List Port) (ms : List Moving) → AreMoving ps ms → AreMoving ps (with_roles id ms)
moving_first id ps ms h =
    moving-each (with_role id (root_vector id (nows ms)))
    (λ was now. record { number = refl; cost = refl; priority = refl }) ps ms h

-- stage 2 keeps the ports
pub moving_second : (id : ℕ) (ps : List Port) (ms : List Moving) → AreMoving ps ms
    → AreMoving ps (with_agreements id ms)
moving_second id ps ms h =
    moving-if (is_same_vector (root_vector id (befores ms)) (root_vector id (nows ms))) ps ms
    (each without_agreement ms) h
    (moving-each without_agreement (λ was now. of_keeps now _ (keeps-agreement was now)) ps ms h)

-- stage 3 keeps the ports
pub moving_third : (ps : List Port) (ms : List Moving) → AreMoving ps ms → AreMoving ps (with_infos ms)
moving_third ps ms h =
    moving-each without_info
    (λ was now. same_port-if (is_designated now.role && is_some now.info) now
    (record now { info = None; new_info = true })
    now
    (record { number = refl; cost = refl; priority = refl }) (is_same_port now)) ps ms h

-- stage 4 keeps the ports
pub moving_fourth : (ps : List Port) (ms : List Moving) → AreMoving ps ms → AreMoving ps (with_states ms)
moving_fourth ps ms h =
    moving-each (with_state (fwd_delay_of (nows ms)))
    (λ was now. of_keeps now _ (keeps-state (fwd_delay_of (nows ms)) was now)) ps ms h

-- stages 1 to 4 keep the ports
pub moving_in_line : (id : ℕ) (ps : List Port) (ms : List Moving) → AreMoving ps ms → AreMoving ps (in_line id ms)
moving_in_line id ps ms h =
    moving_fourth ps _ (moving_third ps _ (moving_second id ps (with_roles id ms) (moving_first id ps ms h)))

-- stage 5 keeps the ports
pub moving_fifth : (heard : Option Heard) (ps : List Port) (ms : List Moving) → AreMoving ps ms
    → AreMoving ps (with_proposal heard ms)
moving_fifth None ps ms h = h
moving_fifth (Some heard) ps ms h =
    moving-if (is_proposed heard) ps (with_agreement_at heard.port ms) ms
    (moving-each (agreeing heard.port) (λ was now. of_keeps now _ (keeps-agreeing heard.port was now)) ps _
    (moving-if (list_any (is_root_agreeing heard.port) (nows ms)) ps (each (synced (fwd_delay_of (nows ms))) ms) ms
    (moving-each (synced (fwd_delay_of (nows ms)))
    (λ was now. of_keeps now _ (keeps-synced (fwd_delay_of (nows ms)) was now))
    ps ms h) h)) h

-- stage 6 keeps the ports
pub moving_sixth : (prompt : Bool) (heard : Option Heard) (ps : List Port) (ms : List Moving) → AreMoving ps ms
    → AreMoving ps (with_topology prompt heard ms)
moving_sixth prompt heard ps ms h =
    moving-each (with_tc_while prompt heard ms) (λ was now. of_keeps now _ (keeps-tc_while prompt heard ms was now)) ps ms h

-- stage 7 keeps the ports
pub moving_seventh : (prompt : Bool) (id : ℕ) (ps : List Port) (ms : List Moving) → AreMoving ps ms
    → AreMoving ps (with_updates prompt id ms)
moving_seventh prompt id ps ms h =
    let before = offer_by id (befores ms) in
    let after = offer_by id (nows ms) in
    moving-if prompt ps (each (with_update id before after) ms) ms
    (moving-each (with_update id before after) (λ was now. of_keeps now _ (keeps-update id before after was now)) ps ms
    h) h

-- stages 1 to 7 keep the ports
pub moving_settled : (prompt : Bool) (id : ℕ) (heard : Option Heard) (ps : List Port) (ms : List Moving)
    → AreMoving ps ms → AreMoving ps (settled prompt id heard ms)
moving_settled prompt id heard ps ms h =
    moving_seventh prompt id ps (with_topology prompt heard (with_proposal heard (in_line id ms)))
    (moving_sixth prompt heard ps (with_proposal heard (in_line id ms))
    (moving_fifth heard ps (in_line id ms) (moving_in_line id ps ms h)))

-- stage 8 keeps the ports
pub moving_sent : (ps : List Port) (ms : List Moving) → AreMoving ps ms → AreMoving ps (with_sent ms)
moving_sent ps ms h = moving-each after_sending (λ was now. of_keeps now _ (keeps-sending was now)) ps ms h

-- Port numbers.

-- ports that are the same have rising numbers too
pub rising-same : (n m : ℕ) → m ≡ n → (ps qs : List Port) → AreSamePorts ps qs → AreRising n (map (λ p. p.number) ps)
    → AreRising m (map (λ p. p.number) qs)
rising-same n m e [] [] h r = (tt, tt)
rising-same n m e (p ∷ ps) (q ∷ qs) h r =
    rises-above m q.number (omega (arith, e, h.0.number, r.0.0)) (map (λ x. x.number) qs)
    (rising-same p.number q.number h.0.number ps qs h.1 r.1)
rising-same n m e _ _ h r = absurd h

-- a number that is at most n is not found among numbers above n
pub first-none : {X : Type 0} (key : X → ℕ) (k n : ℕ) → k ≤ n → (xs : List X) → AreRising n (map key xs)
    → first (λ x. key x == k) xs ≡ None
first-none key k n below [] r = refl
first-none key k n below (x ∷ xs) r = by_test (key x == k) refl (first-none key k (key x) (omega (arith, r.0.0)) xs r.1)
  where
    by_test : (t : Bool) → (key x == k) ≡ t → first (λ y. key y == k) xs ≡ None
        → (if t then Some x else first (λ y. key y == k) xs) ≡ None
    by_test true e rest = absurd (omega (arith, eqb-true (key x) k e, r.0.0))
    by_test false e rest = rest

-- the port with a number, by the first port of a list
pub port_of-cons : (k : ℕ) (p : Port) (ps : List Port) (t : Bool) → (p.number == k) ≡ t
    → port_of (p ∷ ps) k ≡ (if t then Some p else port_of ps k)
port_of-cons k p ps t e = ap (λ u. if u then Some p else port_of ps k) e

-- what holds between each port before and after a call holds between the two with one number
pub found_pair : (P : Port → Port → Type 0) (k : ℕ) (ps : List Port) (ms : List Moving) → AreMoving ps ms
    → AllByRecursion (λ m. P m.was m.now) ms → (p q : Port) → port_of ps k ≡ Some p → port_of (nows ms) k ≡ Some q
    → P p q
found_pair P k [] [] h all p q ep eq = cc
found_pair P k (x ∷ xs) (m ∷ ms) h all p q ep eq =
    by_test (m.now.number == k) refl (λ fp fq. found_pair P k xs ms h.1 all.1 p q fp fq)
  where
    same : (x.number == k) ≡ (m.now.number == k)
    same = ap (λ n. n == k) (sym h.0.1.number)

    by_test : (t : Bool) → (m.now.number == k) ≡ t → (port_of xs k ≡ Some p → port_of (nows ms) k ≡ Some q → P p q)
        → P p q
    by_test true e rest =
        let was : m.was ≡ p = h.0.0 ∙ Some-injective (sym (port_of-cons k x xs true (same ∙ e)) ∙ ep) in
        let is : m.now ≡ q = Some-injective (sym (port_of-cons k m.now (nows ms) true e) ∙ eq) in
        let Q : Port → Type 0 = λ y. P m.was y in
        let R : Port → Type 0 = λ y. P y q in
        subst R was (subst Q is all.0)
    by_test false e rest =
        rest (sym (port_of-cons k x xs false (same ∙ e)) ∙ ep) (sym (port_of-cons k m.now (nows ms) false e) ∙ eq)
found_pair _ k _ _ h all p q ep eq = absurd h

-- The bridge after a call.

-- every call leaves the bridge's identifier and its ports' numbers, path costs and priorities
pub settle_same : (prompt : Bool) (id hello_when hello_when_now : ℕ) (heard : Option Heard) (ps : List Port)
    (ms : List Moving) → AreMoving ps ms
    → IsSameBridge (record { id = id; prompt = prompt; ports = ps; hello_when = hello_when })
    (settle prompt id hello_when_now heard ms).machine
settle_same prompt id hello_when hello_when_now heard ps ms h =
    let all = settled prompt id heard ms in
    record {
      id = refl;
      prompt = refl;
      ports = moving_now ps (with_sent all) (moving_sent ps all (moving_settled prompt id heard ps ms h));
    }

-- after every call the ports have rising numbers
pub settle_rising : (prompt : Bool) (id : ℕ) (heard : Option Heard) (ps : List Port) (ms : List Moving)
    → AreMoving ps ms → AreRising 0 (map (λ p. p.number) ps)
    → AreRising 0 (map (λ p. p.number) (nows (with_sent (settled prompt id heard ms))))
settle_rising prompt id heard ps ms h r =
    let all = settled prompt id heard ms in
    rising-same 0 0 refl ps (nows (with_sent all))
    (moving_now ps (with_sent all) (moving_sent ps all (moving_settled prompt id heard ps ms h))) r

-- a bridge is the same as itself
pub is_same_bridge : (m : Machine) → IsSameBridge m m
is_same_bridge m = record { id = refl; prompt = refl; ports = same_ports m.ports }

-- Each call's own change.

-- storing a BPDU keeps the port
same_news : (m : Bpdu) (p : Port) → IsSamePort p (with_news m p)
same_news m p =
    same_port-if (takes_place m p) p (record p { info = if is_young m then Some (info_of m) else None }) p
    (record { number = refl; cost = refl; priority = refl }) (is_same_port p)

-- recording an agreement keeps the port
same_answer : (root : Vector) (m : Bpdu) (p : Port) → IsSamePort p (with_answer root m p)
same_answer root m p =
    same_port-if (has_agreed root m p) p (record p { agreed = true }) p
    (record { number = refl; cost = refl; priority = refl }) (is_same_port p)

-- receiving a BPDU keeps the port
pub same_hearing : (root : Vector) (port : ℕ) (m : Bpdu) (p : Port) → IsSamePort p (hearing root port m p)
same_hearing root port m p =
    same_port-if (p.number == port) p (with_answer root m (with_news m p)) p
    (same_port-trans p (with_news m p) (with_answer root m (with_news m p)) (same_news m p)
    (same_answer root m (with_news m p))) (is_same_port p)

-- entering the next state keeps the port
same_opened_by : (fwd_delay : ℕ) (state : PortState) (p : Port) → IsSamePort p (opened_by fwd_delay state p)
same_opened_by fwd_delay Forwarding p = is_same_port p
same_opened_by fwd_delay _ p = record { number = refl; cost = refl; priority = refl }

-- running down fdWhile keeps the port
same_opening : (fwd_delay : ℕ) (p : Port) → IsSamePort p (with_opening fwd_delay p)
same_opening fwd_delay p =
    same_port-if (is_designated p.role && not (is_forwarding p.state)) p (opened fwd_delay p) p
    (same_port-if (nat_lt 1 p.fd_while) p (record p { fd_while = p.fd_while - 1 }) (opened_by fwd_delay p.state p)
    (record { number = refl; cost = refl; priority = refl }) (same_opened_by fwd_delay p.state p)) (is_same_port p)

-- the hello time keeps the port
same_hello : (hello : Bool) (p : Port) → IsSamePort p (with_hello hello p)
same_hello hello p =
    same_port-if (hello && is_hello p) p (record p { new_info = true }) p
    (record { number = refl; cost = refl; priority = refl }) (is_same_port p)

-- a second keeps the port
pub same_ticking : (fwd_delay : ℕ) (hello : Bool) (p : Port) → IsSamePort p (ticking fwd_delay hello p)
same_ticking fwd_delay hello p =
    same_port-trans p (with_opening fwd_delay (with_timers p)) _
    (same_port-trans p (with_timers p) _ (record { number = refl; cost = refl; priority = refl })
    (same_opening fwd_delay (with_timers p)))
    (same_hello hello (with_opening fwd_delay (with_timers p)))

-- enabling or disabling keeps the port
same_admin : (up : Bool) (p : Port) → IsSamePort p (with_admin up p)
same_admin true p = record { number = refl; cost = refl; priority = refl }
same_admin false p = record { number = refl; cost = refl; priority = refl }

-- the same for the port with a number
pub same_setting : (port : ℕ) (up : Bool) (p : Port) → IsSamePort p (setting port up p)
same_setting port up p = same_port-if (p.number == port) p (with_admin up p) p (same_admin up p) (is_same_port p)

-- every call's own change keeps the port
pub same_own : (own : OwnChange) (p : Port) → IsSamePort p (own_change own p)
same_own (Hearing root port m) p = same_hearing root port m p
same_own (Ticking fwd_delay hello) p = same_ticking fwd_delay hello p
same_own (Setting port up) p = same_setting port up p
