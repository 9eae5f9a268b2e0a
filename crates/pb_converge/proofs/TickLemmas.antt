-- Rounds in which each bridge ticks once.
use Rattle.std.proofs.Common.{◌≡◌, ◌≤◌, ◌<◌, ◌+◌, ◌-◌, ◌==◌, inl, inr, ℕ, zero, suc, Bool, true, false}
use Rattle.std.proofs.Common.{List, [], ◌∷◌, ◌++◌, map, length, slice_get, is_some}
use Rattle.std.proofs.Common.{refl, sym, ap, subst, ◌∙◌, arith, append_assoc, append-nil}
use Rattle.std.proofs.lemmas.Bool.{cases_eq}
use Rattle.std.specs.List.{count_by}
use Rattle.pb_frame.proofs.Counting.{one_if, count_by-append, count_by-cons}
use Rattle.pb_lan.proofs.PortBits.{unequal}
use Rattle.pb_lan.specs.Numbering.{numbered, numbers_from}
use Rattle.pb_lan.specs.declared.event.Event.{Event}
use Rattle.pb_lan.specs.declared.event.Event.TheVariants.{Tick}
use Rattle.pb_net.specs.Answers.{NetView}
use Rattle.pb_converge.proofs.DriveLemmas.{done-append, driven-append, driven-gone, driven-none, reason-later}
use Rattle.pb_converge.proofs.DriveLemmas.{refusal_is_reason}
use Rattle.pb_converge.specs.Drives.{is_onward, is_tick_of, is_poll, is_admin, HaveDone, HasBeenDriven, HasStopped}
use Rattle.pb_converge.specs.Drives.{AreRounds, HasFailed, HasTicked, IsRefusal, IsRound}
use Rattle.pb_converge.specs.declared.fault.DriveFault.{DriveFault}
use Rattle.pb_converge.specs.declared.fault.DriveFault.TheVariants.{Memory}

-- the ticks of the first bridges
pub ticks_to : ℕ → List Event
ticks_to zero = []
ticks_to (suc n) = ticks_to n ++ Tick (suc n) ∷ []

pub ticks_to-none : ticks_to 0 ≡ []
unfolding ticks_to
ticks_to-none = refl

pub ticks_to-more : (n : ℕ) → ticks_to (n + 1) ≡ ticks_to n ++ Tick (n + 1) ∷ []
unfolding ticks_to
ticks_to-more n = let e : suc n ≡ n + 1 = omega arith in subst (λ m. ticks_to m ≡ ticks_to n ++ Tick m ∷ []) e refl

ticks_from : {X : Type 0} (n : ℕ) (xs : List X) → ticks_to (n + length xs) ≡ ticks_to n
    ++ map (λ k. Tick k) (numbers_from (n + 1) xs)
ticks_from n [] = let e : n + 0 ≡ n = omega arith in ap ticks_to e ∙ sym (append-nil (ticks_to n))
ticks_from n (x ∷ xs) =
    let e : n + suc (length xs) ≡ (n + 1) + length xs = omega arith in
    ap ticks_to e ∙ ticks_from (n + 1) xs
    ∙ ap (λ z. z ++ map (λ k. Tick k) (numbers_from ((n + 1) + 1) xs)) (ticks_to-more n)
    ∙ append_assoc (ticks_to n) (Tick (n + 1) ∷ []) (map (λ k. Tick k) (numbers_from ((n + 1) + 1) xs))

-- the ticks of all bridges
pub ticks_to-all : {X : Type 0} (xs : List X) → ticks_to (length xs) ≡ map (λ k. Tick k) (numbers_from 1 xs)
ticks_to-all xs =
    let e : 0 + length xs ≡ length xs = omega arith in
    ap ticks_to (sym e) ∙ ticks_from 0 xs ∙ ap (λ z. z ++ map (λ k. Tick k) (numbers_from 1 xs)) ticks_to-none

-- no event of another kind is among the ticks
no_others : (t : Event → Bool) → ((k : ℕ) → t (Tick k) ≡ false) → (n : ℕ) → count_by t (ticks_to n) ≡ 0
unfolding ticks_to
no_others t never zero = refl
no_others t never (suc n) =
    let one : one_if (t (Tick (suc n))) ≡ 0 = ap one_if (never (suc n)) in
    omega (
      arith,
      count_by-append t (ticks_to n) (Tick (suc n) ∷ []),
      count_by-cons t (Tick (suc n)) [],
      one,
      no_others t never n,
    )

-- no tick of a later bridge is among them, and one of each at most
not_yet : (b n : ℕ) → n < b → count_by (is_tick_of b) (ticks_to n) ≡ 0
unfolding ticks_to
not_yet b zero h = refl
not_yet b (suc n) h =
    let other : (b == suc n) ≡ false = unequal b (suc n) (λ e. absurd (omega (arith, h, e))) in
    let one : one_if (b == suc n) ≡ 0 = ap one_if other in
    omega (
      arith,
      count_by-append (is_tick_of b) (ticks_to n) (Tick (suc n) ∷ []),
      count_by-cons (is_tick_of b) (Tick (suc n)) [],
      one,
      not_yet b n (omega (arith, h)),
    )

once : (b n : ℕ) → count_by (is_tick_of b) (ticks_to n) ≤ 1
unfolding ticks_to
once b zero = omega arith
once b (suc n) =
    let parts = count_by-append (is_tick_of b) (ticks_to n) (Tick (suc n) ∷ []) in
    let last : count_by (is_tick_of b) (Tick (suc n) ∷ []) ≡ one_if (b == suc n) + 0 =
    count_by-cons (is_tick_of b) (Tick (suc n)) [] in
    elim (cases_eq b (suc n)) [
      | inl e ↦
          let none = not_yet b n (omega (arith, e)) in
          let one = at_most (b == suc n) in
          omega (arith, parts, last, none, one)
      | inr ne ↦
          let one : one_if (b == suc n) ≡ 0 = ap one_if (unequal b (suc n) ne) in
          omega (arith, parts, last, one, once b n)
    ]
  where
    at_most : (x : Bool) → one_if x ≤ 1
    at_most true = omega arith
    at_most false = omega arith

pub driven-ticks : (n : ℕ) (old new : NetView) → HaveDone old (ticks_to n) new → HasBeenDriven 1 0 old new
driven-ticks n old new h = record {
  events = ticks_to n;
  done = h;
  few = record {
    ticked = λ b. once b n;
    polled = omega (arith, no_others is_poll (λ k. refl) n);
    switched = omega (arith, no_others is_admin (λ k. refl) n);
  };
  number = no_others is_onward (λ k. refl) n;
}

-- one more bridge has ticked
pub ticked-more : (n : ℕ) (old mid new : NetView) → HaveDone old (ticks_to n) mid
    → HaveDone mid (Tick (n + 1) ∷ []) new → HaveDone old (ticks_to (n + 1)) new
ticked-more n old mid new h one = subst (λ es. HaveDone old es new) (sym (ticks_to-more n))
    (done-append old mid new (ticks_to n) (Tick (n + 1) ∷ []) h one)

pub ticked-none : (net : NetView) → HaveDone net (ticks_to 0) net
ticked-none net = subst (λ es. HaveDone net es net) (sym ticks_to-none) refl

-- the number of a bridge
pub bridge_is : {X : Type 0} (xs : List X) (k count : ℕ) → count ≡ length xs → k < count
    → is_some (numbered xs (k + 1)) ≡ true
bridge_is xs k count e h = let n : suc k ≡ k + 1 = omega arith in subst (λ m. is_some (numbered xs m) ≡ true) n
    (there xs k (omega (arith, e, h)))
  where
    there : {X : Type 0} (xs : List X) (k : ℕ) → k < length xs → is_some (slice_get xs k) ≡ true
    there [] k h = absurd (omega (arith, h))
    there (x ∷ xs) zero h = refl
    there (x ∷ xs) (suc k) h = there xs k (omega (arith, h))

-- after the tick of the last bridge each has ticked once
pub has_ticked : (n : ℕ) (old new : NetView) → n ≡ length old.plan.bridges → HaveDone old (ticks_to n) new
    → HasTicked old new
has_ticked n old new e h = subst (λ es. HaveDone old es new) (ap ticks_to e ∙ ticks_to-all old.plan.bridges) h

driven-ticked : (old new : NetView) → HasTicked old new → HasBeenDriven 1 0 old new
driven-ticked old new h = driven-ticks (length old.plan.bridges) old new
    (subst (λ es. HaveDone old es new) (sym (ticks_to-all old.plan.bridges)) h)

driven-round : (count : ℕ) (old new : NetView) → IsRound count old new → HasBeenDriven 1 count old new
driven-round count old new r = driven-append 1 count old r.ticked new (omega arith) (omega arith) (driven-ticked old r.ticked r.ticks)
    (driven-gone count r.ticked new r.drained.gone)

-- an error of a tick, or of an event after the ticks of a round
pub failed-ticks : (most : ℕ) (fault : DriveFault) (old new : NetView) → HasBeenDriven 1 0 old new
    → IsRefusal fault new → HasFailed 1 most fault old new
failed-ticks most fault old new d h =
    record { count = 0; driven = d; reason = refusal_is_reason fault most 0 new h }

pub failed-stopped : (most : ℕ) (fault : DriveFault) (old mid new : NetView) → HasTicked old mid
    → HasStopped most fault mid new → HasFailed 1 most fault old new
failed-stopped most fault old mid new t s = record {
  count = s.count;
  driven = driven-append 1 s.count old mid new (omega arith) (omega arith) (driven-ticked old mid t) (driven-gone s.count mid new s.gone);
  reason = s.reason;
}

-- one more round
pub rounds-more : (ticks a b : ℕ) (old mid new : NetView) → AreRounds ticks a old mid → IsRound b mid new
    → AreRounds (ticks + 1) (a + b) old new
rounds-more ticks a b old mid new rs r = let e : suc ticks ≡ ticks + 1 =
    omega arith in subst (λ n. AreRounds n (a + b) old new) e (mid, a, b, refl, rs, r)

pub driven-rounds : (ticks count : ℕ) (old new : NetView) → AreRounds ticks count old new
    → HasBeenDriven ticks count old new
driven-rounds zero count old new h =
    subst (λ n. HasBeenDriven zero n old new) (sym h.0) (driven-none zero old new h.1)
driven-rounds (suc ticks) count old new (between, before, more, e, rs, r) =
    driven-append (suc ticks) count old between new (omega arith) e (driven-rounds ticks before old between rs)
    (driven-round more between new r)

-- an error after some rounds, and one of a look after them
pub failed-later : (rounds ticks most a : ℕ) (fault : DriveFault) (old mid new : NetView) → rounds + 1 ≤ ticks
    → AreRounds rounds a old mid → a ≤ most → HasFailed 1 (most - a) fault mid new → HasFailed ticks most fault old new
failed-later rounds ticks most a fault old mid new le rs within f = record {
  count = a + f.count;
  driven = driven-append ticks (a + f.count) old mid new le refl (driven-rounds rounds a old mid rs) f.driven;
  reason = reason-later fault most a f.count new within f.reason;
}

-- an error before the first event
pub failed-first : (ticks most : ℕ) (net : NetView) → HasFailed ticks most Memory net net
failed-first ticks most net = record { count = 0; driven = driven-none ticks net net refl; reason = tt }

pub failed-look : (rounds ticks most a b : ℕ) (old mid new : NetView) → rounds + 1 ≤ ticks → AreRounds rounds a old mid
    → IsRound b mid new → HasFailed ticks most Memory old new
failed-look rounds ticks most a b old mid new le rs r = record {
  count = a + b;
  driven = driven-append ticks (a + b) old mid new le refl (driven-rounds rounds a old mid rs) (driven-round b mid new r);
  reason = tt;
}
