-- The states that a call returns lead from the states before it to those after it.
use Rattle.std.proofs.Common.{◌≡◌, ℕ, ◌+◌, ◌≤◌, List, [], ◌∷◌, ◌++◌, refl, sym, ap, ◌∙◌, Bool, true, false}
use Rattle.std.proofs.Common.{◌==◌, if◌then◌else◌, map, arith}
use Rattle.std.specs.Option.{option_map_or}
use Rattle.std.proofs.lemmas.Bool.{eqb-true}
use Rattle.pb_frame.proofs.Lists.{false-unless}
use Rattle.pb_lan.specs.Rules.{Cause, from_to, is_same}
use Rattle.pb_lan.specs.Shapes.{changed}
use Rattle.pb_lan.specs.declared.shape.PortState.{PortState}
use Rattle.pb_lan.specs.declared.shape.PortState.TheVariants.{Discarding}
use Rattle.pb_lan.proofs.StateLemmas.{same_state}
use Rattle.pb_rstp.specs.Changes.{AreMoving}
use Rattle.pb_rstp.specs.Machine.{moved_by}
use Rattle.pb_rstp.specs.Ports.{Machine, port_of}
use Rattle.pb_rstp.specs.Profile.{after}
use Rattle.pb_rstp.specs.Rising.{AreRising}
use Rattle.pb_rstp.specs.Settling.{after_sending, is_sending, nows, settled, state_changes, with_sent}
use Rattle.pb_rstp.specs.declared.moving.Moving.{Moving}
use Rattle.pb_rstp.specs.declared.port.Port.{Port}
use Rattle.pb_rstp.proofs.CallLaws.{after-each}
use Rattle.pb_rstp.proofs.MovingLaws.{moving_by, moving_settled, port_of-cons}

-- the state of the port with this number, or Discarding if there is none
abbrev pub state_in : List Port → ℕ → PortState
state_in ports k = option_map_or (λ p. p.state) (port_of ports k) Discarding

-- the state of a port in a list, by the list's first port
pub state_in-cons : (k : ℕ) (p : Port) (ps : List Port) (t : Bool) → (p.number == k) ≡ t
    → state_in (p ∷ ps) k ≡ (if t then p.state else state_in ps k)
state_in-cons k p ps true e = ap (λ o. option_map_or (λ (q : Port). q.state) o Discarding) (port_of-cons k p ps true e)
state_in-cons k p ps false e =
    ap (λ o. option_map_or (λ (q : Port). q.state) o Discarding) (port_of-cons k p ps false e)

-- the state of a port after the change of one port and further changes
changed-one : (k n : ℕ) (s a b : PortState) (rest : List (ℕ × PortState)) (t u : Bool) → is_same a b ≡ t → (n == k) ≡ u
    → changed k s (from_to n a b ++ rest) ≡ changed k (if t then s else (if u then b else s)) rest
changed-one k n s a b rest true u et eu = ap (λ x. changed k s ((if x then [] else ((n, b) ∷ [])) ++ rest)) et
changed-one k n s a b rest false u et eu =
    ap (λ x. changed k s ((if x then [] else ((n, b) ∷ [])) ++ rest)) et
    ∙ ap (λ x. changed k (if x then b else s) rest) eu

-- either choice between a state and itself is that state
same-either : (t : Bool) (s : PortState) → (if t then s else s) ≡ s
same-either true s = refl
same-either false s = refl

-- the changes of ports with greater numbers leave a port's state
unchanged-below : (k n : ℕ) (s : PortState) → k ≤ n → (ps : List Port) (ms : List Moving) → AreMoving ps ms
    → AreRising n (map (λ p. p.number) ps)
    → changed k s (state_changes ms) ≡ s
unchanged-below k n s below [] [] h r = refl
unchanged-below k n s below (p ∷ ps) (x ∷ xs) h r =
    changed-one k x.now.number s x.was.state x.now.state (state_changes xs) (is_same x.was.state x.now.state) false
    refl other
    ∙ ap (λ a. changed k a (state_changes xs)) (same-either (is_same x.was.state x.now.state) s)
    ∙ unchanged-below k p.number s (omega (arith, r.0.0)) ps xs h.1 r.1
  where
    other : (x.now.number == k) ≡ false
    other = false-unless (x.now.number == k)
        (λ e. omega (arith, eqb-true x.now.number k e, h.0.1.number, r.0.0, below))
unchanged-below k n s below _ _ h r = absurd h

-- sending a BPDU keeps a port's number
number-sent : (was now : Port) → (after_sending was now).number ≡ now.number
number-sent was now = by_test (is_sending now)
  where
    by_test : (t : Bool)
        → (if t then record now { new_info = false; tx_count = now.tx_count + 1 } else now).number ≡ now.number
    by_test true = refl
    by_test false = refl

-- sending a BPDU keeps a port's state
state-sent : (was now : Port) → (after_sending was now).state ≡ now.state
state-sent was now = by_test (is_sending now)
  where
    by_test : (t : Bool)
        → (if t then record now { new_info = false; tx_count = now.tx_count + 1 } else now).state ≡ now.state
    by_test true = refl
    by_test false = refl

-- the changes of a call lead from the states before it to those after it
changes-lead : (k n : ℕ) (ps : List Port) (ms : List Moving) → AreMoving ps ms → AreRising n (map (λ p. p.number) ps)
    → changed k (state_in ps k) (state_changes ms) ≡ state_in (nows (with_sent ms)) k
changes-lead k n [] [] h r = refl
changes-lead k n (p ∷ ps) (x ∷ xs) h r =
    by_tests (x.now.number == k) (is_same x.was.state x.now.state) refl refl (changes-lead k p.number ps xs h.1 r.1)
  where
    sent : Port
    sent = after_sending x.was x.now

    before : (p.number == k) ≡ (x.now.number == k)
    before = ap (λ m. m == k) (sym h.0.1.number)

    later : (sent.number == k) ≡ (x.now.number == k)
    later = ap (λ m. m == k) (number-sent x.was x.now)

    rest_stays : (s : PortState) → (x.now.number == k) ≡ true → changed k s (state_changes xs) ≡ s
    rest_stays s e = unchanged-below k p.number s (omega (arith, eqb-true x.now.number k e, h.0.1.number)) ps xs h.1 r.1

    by_tests : (t s : Bool) → (x.now.number == k) ≡ t → is_same x.was.state x.now.state ≡ s
        → changed k (state_in ps k) (state_changes xs) ≡ state_in (nows (with_sent xs)) k
        → changed k (state_in (p ∷ ps) k) (state_changes (x ∷ xs)) ≡ state_in (nows (with_sent (x ∷ xs))) k
    by_tests true true et es rest =
        changed-one k x.now.number (state_in (p ∷ ps) k) x.was.state x.now.state (state_changes xs) true true es et
        ∙ rest_stays (state_in (p ∷ ps) k) et
        ∙ state_in-cons k p ps true (before ∙ et)
        ∙ ap (λ (q : Port). q.state) (sym h.0.0)
        ∙ same_state x.was.state x.now.state es
        ∙ sym (state_in-cons k sent (nows (with_sent xs)) true (later ∙ et) ∙ state-sent x.was x.now)
    by_tests true false et es rest =
        changed-one k x.now.number (state_in (p ∷ ps) k) x.was.state x.now.state (state_changes xs) false true es et
        ∙ rest_stays x.now.state et
        ∙ sym (state_in-cons k sent (nows (with_sent xs)) true (later ∙ et) ∙ state-sent x.was x.now)
    by_tests false s et es rest =
        changed-one k x.now.number (state_in (p ∷ ps) k) x.was.state x.now.state (state_changes xs) s false es et
        ∙ ap (λ a. changed k a (state_changes xs)) (same-either s (state_in (p ∷ ps) k))
        ∙ ap (λ a. changed k a (state_changes xs)) (state_in-cons k p ps false (before ∙ et))
        ∙ rest
        ∙ sym (state_in-cons k sent (nows (with_sent xs)) false (later ∙ et))
changes-lead k n _ _ h r = absurd h

-- so do those of each cause
pub cause_leads : (machine : Machine) → AreRising 0 (map (λ p. p.number) machine.ports) → (k : ℕ) (cause : Cause)
    → changed k (state_in machine.ports k) (after machine cause).change.states
    ≡ state_in (after machine cause).machine.ports k
cause_leads machine rises k cause =
    after-each (λ a. changed k (state_in machine.ports k) a.change.states ≡ state_in a.machine.ports k) machine refl
    (λ hello_when heard change same. changes-lead k 0 machine.ports
    (settled machine.prompt machine.id heard (moved_by change machine.ports))
    (moving_settled machine.prompt machine.id heard machine.ports (moved_by change machine.ports)
    (moving_by change same machine.ports)) rises) cause
