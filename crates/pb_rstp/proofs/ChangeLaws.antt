-- A call returns each change once.
use Rattle.std.proofs.Common.{◌≡◌, ℕ, ◌+◌, ◌≤◌, List, [], ◌∷◌, ◌++◌, Some, None, refl, sym, ap, ap₂, ◌∙◌, Bool, true}
use Rattle.std.proofs.Common.{false, ◌==◌, if◌then◌else◌, map, arith}
use Rattle.std.specs.declared.option.Option.{Option}
use Rattle.std.specs.List.{filter}
use Rattle.std.specs.Option.{option_map}
use Rattle.std.proofs.lemmas.Bool.{eqb-true}
use Rattle.pb_bpdu.specs.declared.bpdu.Bpdu.{Bpdu}
use Rattle.pb_frame.specs.Lists.{first}
use Rattle.pb_frame.proofs.Lists.{Some-injective}
use Rattle.pb_lan.specs.Rules.{from_to, is_same}
use Rattle.pb_lan.specs.Shapes.{changed}
use Rattle.pb_lan.specs.declared.shape.PortState.{PortState}
use Rattle.pb_lan.proofs.StateLemmas.{same_state}
use Rattle.pb_rstp.specs.Changes.{AreMoving, state_of, told_state, new_state, NamesChanges, ChangesLeadOn}
use Rattle.pb_rstp.specs.Machine.{settle}
use Rattle.pb_rstp.specs.Messages.{message_of}
use Rattle.pb_rstp.specs.Rising.{AreRising}
use Rattle.pb_rstp.proofs.RisingLaws.{rises-above}
use Rattle.pb_rstp.specs.Settling.{nows, is_flushed, is_sending, with_sent, settled, state_changes}
use Rattle.pb_rstp.specs.declared.moving.Heard.{Heard}
use Rattle.pb_rstp.specs.declared.moving.Moving.{Moving}
use Rattle.pb_rstp.specs.declared.port.Port.{Port}
use Rattle.pb_rstp.proofs.MovingLaws.{moving_settled, first-none, port_of-cons}

-- Each list goes by rising port number.

-- the changed states are listed by rising port number
rising-states : (n m : ℕ) → m ≤ n → (ps : List Port) (ms : List Moving) → AreMoving ps ms
    → AreRising n (map (λ p. p.number) ps)
    → AreRising m (map (λ s. s.0) (state_changes ms))
rising-states n m below [] [] h r = (tt, tt)
rising-states n m below (p ∷ ps) (x ∷ xs) h r =
    by_test (is_same x.was.state x.now.state)
    (rising-states p.number m (omega (arith, r.0.0)) ps xs h.1 r.1)
    (rising-states p.number x.now.number (omega (arith, h.0.1.number)) ps xs h.1 r.1)
  where
    by_test : (t : Bool) → AreRising m (map (λ s. s.0) (state_changes xs))
        → AreRising x.now.number (map (λ s. s.0) (state_changes xs))
        → AreRising m (map (λ s. s.0) ((if t then [] else ((x.now.number, x.now.state) ∷ [])) ++ state_changes xs))
    by_test true skip take = skip
    by_test false skip take = rises-above m x.now.number (omega (arith, r.0.0, h.0.1.number))
        (map (λ s. s.0) (state_changes xs)) take
rising-states n m below _ _ h r = absurd h

-- the ports that pass a test are listed by rising port number: used for the flushed ports
rising-filter : (test : Moving → Bool) (n m : ℕ) → m ≤ n → (ps : List Port) (ms : List Moving) → AreMoving ps ms
    → AreRising n (map (λ p. p.number) ps)
    → AreRising m (map (λ x. x.now.number) (filter test ms))
rising-filter test n m below [] [] h r = (tt, tt)
rising-filter test n m below (p ∷ ps) (x ∷ xs) h r =
    by_test (test x)
    (rising-filter test p.number m (omega (arith, r.0.0)) ps xs h.1 r.1)
    (rising-filter test p.number x.now.number (omega (arith, h.0.1.number)) ps xs h.1 r.1)
  where
    by_test : (t : Bool) → AreRising m (map (λ y. y.now.number) (filter test xs))
        → AreRising x.now.number (map (λ y. y.now.number) (filter test xs))
        → AreRising m (map (λ y. y.now.number) (if t then x ∷ filter test xs else filter test xs))
    by_test true skip take = rises-above m x.now.number (omega (arith, r.0.0, h.0.1.number))
        (map (λ y. y.now.number) (filter test xs)) take
    by_test false skip take = skip
rising-filter test n m below _ _ h r = absurd h

-- the numbers of the ports that send
abbrev sent_numbers : ℕ → List Port → List Port → List ℕ
sent_numbers id all ps = map (λ (s : ℕ × Bpdu). s.0) (map (λ (p : Port). (p.number, message_of id all p)) ps)

-- the BPDUs are listed by rising port number
rising-sent : (id : ℕ) (all : List Port) (n m : ℕ) → m ≤ n → (ps : List Port) (ms : List Moving) → AreMoving ps ms
    → AreRising n (map (λ p. p.number) ps)
    → AreRising m (sent_numbers id all (filter is_sending (nows ms)))
rising-sent id all n m below [] [] h r = (tt, tt)
rising-sent id all n m below (p ∷ ps) (x ∷ xs) h r =
    by_test (is_sending x.now)
    (rising-sent id all p.number m (omega (arith, r.0.0)) ps xs h.1 r.1)
    (rising-sent id all p.number x.now.number (omega (arith, h.0.1.number)) ps xs h.1 r.1)
  where
    by_test : (t : Bool) → AreRising m (sent_numbers id all (filter is_sending (nows xs)))
        → AreRising x.now.number (sent_numbers id all (filter is_sending (nows xs)))
        → AreRising m (sent_numbers id all (if t then x.now ∷ filter is_sending (nows xs) else filter is_sending
        (nows xs)))
    by_test true skip take =
        rises-above m x.now.number (omega (arith, r.0.0, h.0.1.number))
        (sent_numbers id all (filter is_sending (nows xs))) take
    by_test false skip take = skip
rising-sent id all n m below _ _ h r = absurd h

-- The change of one port.

-- the state that a list of changes names for a port, by the list's first entry
told-cons : (k n : ℕ) (a b : PortState) (rest : List (ℕ × PortState)) (s t : Bool) → is_same a b ≡ s → (n == k) ≡ t
    → told_state (from_to n a b ++ rest) k
    ≡ (if s then told_state rest k else (if t then Some b else told_state rest k))
told-cons k n a b rest true t es et = ap (λ u. told_state ((if u then [] else ((n, b) ∷ [])) ++ rest) k) es
told-cons k n a b rest false true es et =
    ap (λ u. told_state ((if u then [] else ((n, b) ∷ [])) ++ rest) k) es
    ∙ ap (λ u. option_map (λ (c : ℕ × PortState). c.1) (if u then Some (n, b) else first (λ c. c.0 == k) rest)) et
told-cons k n a b rest false false es et =
    ap (λ u. told_state ((if u then [] else ((n, b) ∷ [])) ++ rest) k) es
    ∙ ap (λ u. option_map (λ (c : ℕ × PortState). c.1) (if u then Some (n, b) else first (λ c. c.0 == k) rest)) et

-- the state of a port in a list, by the list's first port
state_of-cons : (k : ℕ) (p : Port) (ps : List Port) (t : Bool) → (p.number == k) ≡ t
    → state_of (p ∷ ps) k ≡ (if t then Some p.state else state_of ps k)
state_of-cons k p ps true e = ap (λ o. option_map (λ (q : Port). q.state) o) (port_of-cons k p ps true e)
state_of-cons k p ps false e = ap (λ o. option_map (λ (q : Port). q.state) o) (port_of-cons k p ps false e)

-- the new state of a port that is there before and after
new-some : (a b : PortState) (s : Bool) → is_same a b ≡ s → new_state (Some a) (Some b) ≡ (if s then None else Some b)
new-some a b s e = ap (λ u. if u then None else Some b) e

-- the list of changes names the new state of each port whose state differs, and no other
told : (k n : ℕ) (ps : List Port) (ms : List Moving) → AreMoving ps ms → AreRising n (map (λ p. p.number) ps)
    → told_state (state_changes ms) k ≡ new_state (state_of ps k) (state_of (nows ms) k)
told k n [] [] h r = refl
told k n (p ∷ ps) (x ∷ xs) h r =
    by_tests (x.now.number == k) (is_same x.was.state x.now.state) refl refl (told k p.number ps xs h.1 r.1)
  where
    number : (p.number == k) ≡ (x.now.number == k)
    number = ap (λ m. m == k) (sym h.0.1.number)

    state : is_same p.state x.now.state ≡ is_same x.was.state x.now.state
    state = ap (λ (q : Port). is_same q.state x.now.state) (sym h.0.0)

    none : p.number ≡ k → told_state (state_changes xs) k ≡ None
    none e =
        ap (λ (o : Option (ℕ × PortState)). option_map (λ c. c.1) o)
        (first-none (λ (c : ℕ × PortState). c.0) k p.number (omega (arith, e)) (state_changes xs)
        (rising-states p.number p.number (omega arith) ps xs h.1 r.1))

    by_tests : (t s : Bool) → (x.now.number == k) ≡ t → is_same x.was.state x.now.state ≡ s
        → told_state (state_changes xs) k ≡ new_state (state_of ps k) (state_of (nows xs) k)
        → told_state (state_changes (x ∷ xs)) k ≡ new_state (state_of (p ∷ ps) k) (state_of (nows (x ∷ xs)) k)
    by_tests true true et es rest =
        told-cons k x.now.number x.was.state x.now.state (state_changes xs) true true es et
        ∙ none (eqb-true p.number k (number ∙ et))
        ∙ sym (ap₂ new_state (state_of-cons k p ps true (number ∙ et)) (state_of-cons k x.now (nows xs) true et)
        ∙ new-some p.state x.now.state true (state ∙ es))
    by_tests true false et es rest =
        told-cons k x.now.number x.was.state x.now.state (state_changes xs) false true es et
        ∙ sym (ap₂ new_state (state_of-cons k p ps true (number ∙ et)) (state_of-cons k x.now (nows xs) true et)
        ∙ new-some p.state x.now.state false (state ∙ es))
    by_tests false true et es rest =
        told-cons k x.now.number x.was.state x.now.state (state_changes xs) true false es et
        ∙ rest
        ∙ sym (ap₂ new_state (state_of-cons k p ps false (number ∙ et)) (state_of-cons k x.now (nows xs) false et))
    by_tests false false et es rest =
        told-cons k x.now.number x.was.state x.now.state (state_changes xs) false false es et
        ∙ rest
        ∙ sym (ap₂ new_state (state_of-cons k p ps false (number ∙ et)) (state_of-cons k x.now (nows xs) false et))
told k n _ _ h r = absurd h

-- sending a BPDU changes no port's state
state_sent : (k : ℕ) (ms : List Moving) → state_of (nows (with_sent ms)) k ≡ state_of (nows ms) k
state_sent k [] = refl
state_sent k (x ∷ xs) = by_test (is_sending x.now) refl (state_sent k xs)
  where
    number : (b : Bool) → (if b then record x.now { new_info = false; tx_count = x.now.tx_count + 1 } else x.now).number
        ≡ x.now.number
    number true = refl
    number false = refl

    by_test : (b : Bool) → is_sending x.now ≡ b → state_of (nows (with_sent xs)) k ≡ state_of (nows xs) k
        → state_of (nows (with_sent (x ∷ xs))) k ≡ state_of (nows (x ∷ xs)) k
    by_test true e rest =
        ap (λ b. state_of ((if b then record x.now { new_info = false; tx_count = x.now.tx_count + 1 } else x.now)
        ∷ nows (with_sent xs)) k) e
        ∙ by_number (x.now.number == k) refl
      where
        by_number : (t : Bool) → (x.now.number == k) ≡ t
            → state_of (record x.now { new_info = false; tx_count = x.now.tx_count + 1 } ∷ nows (with_sent xs)) k
            ≡ state_of (x.now ∷ nows xs) k
        by_number true et =
            state_of-cons k (record x.now { new_info = false; tx_count = x.now.tx_count + 1 })
            (nows (with_sent xs)) true et
            ∙ sym (state_of-cons k x.now (nows xs) true et)
        by_number false et =
            state_of-cons k (record x.now { new_info = false; tx_count = x.now.tx_count + 1 })
            (nows (with_sent xs)) false et
            ∙ rest ∙ sym (state_of-cons k x.now (nows xs) false et)
    by_test false e rest =
        ap (λ b. state_of ((if b then record x.now { new_info = false; tx_count = x.now.tx_count + 1 } else x.now)
        ∷ nows (with_sent xs)) k) e
        ∙ by_number (x.now.number == k) refl
      where
        by_number : (t : Bool) → (x.now.number == k) ≡ t
            → state_of (x.now ∷ nows (with_sent xs)) k ≡ state_of (x.now ∷ nows xs) k
        by_number true et = state_of-cons k x.now (nows (with_sent xs)) true et
            ∙ sym (state_of-cons k x.now (nows xs) true et)
        by_number false et = state_of-cons k x.now (nows (with_sent xs)) false et ∙ rest
            ∙ sym (state_of-cons k x.now (nows xs) false et)

-- every call returns each change once
pub settle_named : (prompt : Bool) (id hello_when hello_when_now : ℕ) (heard : Option Heard) (ps : List Port)
    (ms : List Moving) → AreMoving ps ms
    → AreRising 0 (map (λ p. p.number) ps)
    → NamesChanges (record { id = id; prompt = prompt; ports = ps; hello_when = hello_when })
    (settle prompt id hello_when_now heard ms).machine (settle prompt id hello_when_now heard ms).change
settle_named prompt id hello_when hello_when_now heard ps ms h r =
    let all = settled prompt id heard ms in
    let moving = moving_settled prompt id heard ps ms h in
    record {
      states = λ k. told k 0 ps all moving r ∙ ap (λ o. new_state (state_of ps k) o) (sym (state_sent k all));
      states_rise = rising-states 0 0 (omega arith) ps all moving r;
      flush_rises = rising-filter (is_flushed heard all) 0 0 (omega arith) ps all moving r;
      send_rises = rising-sent id (nows all) 0 0 (omega arith) ps all moving r;
    }

-- The changes, applied one after another, lead from the states before to the states after.

-- a list that does not name a port leaves its state
changed-none : (k : ℕ) (s : PortState) (changes : List (ℕ × PortState)) → told_state changes k ≡ None
    → changed k s changes ≡ s
changed-none k s [] none = refl
changed-none k s (c ∷ cs) none = by_test (c.0 == k) refl (changed-none k s cs)
  where
    by_test : (t : Bool) → (c.0 == k) ≡ t → (told_state cs k ≡ None → changed k s cs ≡ s) → changed k s (c ∷ cs) ≡ s
    by_test true t rest =
        let some : Some c.1 ≡ None =
        ap (λ b. option_map (λ (d : ℕ × PortState). d.1) (if b then Some c else first (λ d. d.0 == k) cs)) (sym t)
        ∙ none in cc
    by_test false t rest =
        ap (λ b. changed k (if b then c.1 else s) cs) t
        ∙ rest (ap (λ b. option_map (λ (d : ℕ × PortState). d.1) (if b then Some c else first (λ d. d.0 == k) cs))
        (sym t) ∙ none)

-- a list that names a new state for a port leads to that state
changed-some : (k n : ℕ) (s new : PortState) (changes : List (ℕ × PortState)) → AreRising n (map (λ c. c.0) changes)
    → told_state changes k ≡ Some new → changed k s changes ≡ new
changed-some k n s new [] r some = cc
changed-some k n s new (c ∷ cs) r some = by_test (c.0 == k) refl (changed-some k c.0 s new cs r.1)
  where
    by_test : (t : Bool) → (c.0 == k) ≡ t → (told_state cs k ≡ Some new → changed k s cs ≡ new)
        → changed k s (c ∷ cs) ≡ new
    by_test true t rest =
        let same : Some c.1 ≡ Some new =
        ap (λ b. option_map (λ (d : ℕ × PortState). d.1) (if b then Some c else first (λ d. d.0 == k) cs)) (sym t)
        ∙ some in
        let number = eqb-true c.0 k t in
        let none : told_state cs k ≡ None =
        ap (λ (o : Option (ℕ × PortState)). option_map (λ d. d.1) o)
        (first-none (λ (d : ℕ × PortState). d.0) k c.0 (omega (arith, number)) cs r.1) in
        ap (λ b. changed k (if b then c.1 else s) cs) t ∙ changed-none k c.1 cs none ∙ Some-injective same
    by_test false t rest =
        ap (λ b. changed k (if b then c.1 else s) cs) t
        ∙ rest (ap (λ b. option_map (λ (d : ℕ × PortState). d.1) (if b then Some c else first (λ d. d.0 == k) cs))
        (sym t) ∙ some)

-- applying the changes that a call returns leads from the states before to those after
pub changes_lead_on : ChangesLeadOn
changes_lead_on before after change names number was is stood stands = by_test (is_same was.state is.state) refl
  where
    told_is : told_state change.states number ≡ new_state (Some was.state) (Some is.state)
    told_is =
        names.states number
        ∙ ap₂ new_state (ap (λ (o : Option Port). option_map (λ p. p.state) o) stood)
        (ap (λ (o : Option Port). option_map (λ p. p.state) o) stands)

    by_test : (t : Bool) → is_same was.state is.state ≡ t → changed number was.state change.states ≡ is.state
    by_test true t = changed-none number was.state change.states (told_is ∙ new-some was.state is.state true t)
        ∙ same_state was.state is.state t
    by_test false t = changed-some number 0 was.state is.state change.states names.states_rise
        (told_is ∙ new-some was.state is.state false t)
