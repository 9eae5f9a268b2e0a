-- Ports that go on after a run: the frames that they hold are those that left and were not sent.
use Rattle.std.proofs.Common.{◌≡◌, ◌-◌, ℕ, zero, suc, Option, List, [], ◌∷◌, ◌++◌, length, take, length-append, arith}
use Rattle.std.proofs.Math.Seq.{take-append_seam}
use Rattle.std.proofs.Common.{All, map, get_or, slice_set, refl, sym, ap, subst, ◌∙◌, append_assoc}
use Rattle.std.proofs.lemmas.List.Elements.{All-head, All-tail}
use Rattle.std.proofs.lemmas.Simd.{map-map}
use Rattle.pb_lan.specs.Counts.{left}
use Rattle.pb_lan.specs.Records.{steps_of}
use Rattle.pb_lan.specs.declared.step.Step.{Step}
use Rattle.pb_port.proofs.OutputLemmas.{written_none, written_on}
use Rattle.pb_port.specs.Outputs.{IsWrittenTo}
use Rattle.pb_port.specs.Ports.{sent_between}
use Rattle.pb_run.specs.Runs.{ArePortsKept, port_of}
use Rattle.pb_workers.proofs.PortLemmas.{sent_on}
use Rattle.pb_workers.specs.Ports.{Frames, PortFrames, HasSent}
use Rattle.pb_workers.specs.declared.access.Last.{Last}
use Rattle.pb_cmd_run.specs.Carried.{FileOctets, HaveClosed}
use Rattle.pb_cmd_run.specs.Unsent.{AreUnsent, GoesOn, HaveGoneOn, waiting_of}

goes_nowhere : (port : PortFrames) → GoesOn port port
goes_nowhere port = record { unsent = record { sent = []; both = refl }; wrote = written_none port.output }

pub have_none : (ports : List PortFrames) → HaveGoneOn ports ports
have_none ports = record { each = λ number. goes_nowhere (port_of ports number) }

goes_on : (a b c : PortFrames) → GoesOn a b → GoesOn b c → GoesOn a c
goes_on a b c one two = record {
  unsent = record {
    sent = one.unsent.sent ++ two.unsent.sent;
    both = append_assoc one.unsent.sent two.unsent.sent c.waiting ∙ ap (λ z. one.unsent.sent ++ z) two.unsent.both
        ∙ one.unsent.both;
  };
  wrote = written_on a.output b.output c.output one.unsent.sent two.unsent.sent one.wrote two.wrote;
}

pub have_on : {a b c : List PortFrames} → HaveGoneOn a b → HaveGoneOn b c → HaveGoneOn a c
have_on {a} {b} {c} one two = record {
  each = λ number. goes_on (port_of a number) (port_of b number) (port_of c number) (one.each number) (two.each number);
}

one_goes : {B : Type 0} (view : B → PortFrames) (ports : List B) (i : ℕ) (old new : B) → old ≡ get_or ports i old
    → GoesOn (view old) (view new) → (number : ℕ)
    → GoesOn (port_of (map view ports) number) (port_of (map view (slice_set ports i new)) number)
one_goes view ports i old new is on zero = goes_nowhere (port_of [] zero)
one_goes view [] i old new is on (suc r) = goes_nowhere (port_of [] (suc r))
one_goes view (p ∷ ports) zero old new is on (suc zero) = subst (λ q. GoesOn (view q) (view new)) is on
one_goes view (p ∷ ports) zero old new is on (suc (suc r)) = goes_nowhere (port_of (map view ports) (suc r))
one_goes view (p ∷ ports) (suc i) old new is on (suc zero) = goes_nowhere (view p)
one_goes view (p ∷ ports) (suc i) old new is on (suc (suc r)) = one_goes view ports i old new is on (suc r)

-- one port goes on
pub have_at : {B : Type 0} (view : B → PortFrames) (ports : List B) (i : ℕ) (old new : B) → old ≡ get_or ports i old
    → GoesOn (view old) (view new) → HaveGoneOn (map view ports) (map view (slice_set ports i new))
have_at view ports i old new is on = record { each = one_goes view ports i old new is on }

pub waiting_there : (ports : List PortFrames) (number : ℕ)
    → waiting_of (map (λ p. p.waiting) ports) number ≡ (port_of ports number).waiting
waiting_there ports zero = refl
waiting_there [] (suc r) = refl
waiting_there (p ∷ ports) (suc zero) = refl
waiting_there (p ∷ ports) (suc (suc r)) = waiting_there ports (suc r)

pub nothing_waits : {B : Type 0} (view : B → PortFrames) (ports : List B) → All (λ b. (view b).waiting ≡ []) ports
    → (number : ℕ) → (port_of (map view ports) number).waiting ≡ []
nothing_waits view ports all zero = refl
nothing_waits view [] all (suc r) = refl
nothing_waits view (p ∷ ports) all (suc zero) = All-head (λ b. (view b).waiting ≡ []) p ports all
nothing_waits view (p ∷ ports) all (suc (suc r)) =
    nothing_waits view ports (All-tail (λ b. (view b).waiting ≡ []) p ports all) (suc r)

-- after a run of ports in which nothing waited before
pub are_unsent : {B : Type 0} (view : B → PortFrames) (before after : List B)
    (customers : List (List Step)) (lasts : List Last) → ArePortsKept (map view before) (map view after) customers lasts
    → All (λ b. (view b).waiting ≡ []) before → AreUnsent (map (λ b. (view b).waiting) after) customers
are_unsent view before after customers lasts kept none = record {
  each = λ number.
      let was = (kept.kept number).unsent in
      let there : (port_of (map view after) number).waiting ≡ waiting_of (map (λ b. (view b).waiting) after) number =
      sym (waiting_there (map view after) number)
      ∙ ap (λ lists. waiting_of lists number) (map-map (λ (p : PortFrames). p.waiting) view after) in
      record {
        sent = was.sent;
        both = ap (λ z. was.sent ++ z) (sym there) ∙ was.both
            ∙ ap (λ z. z ++ left (steps_of customers number)) (nothing_waits view before none number);
      };
}

-- ports that went on after a run, and were closed
pub still_unsent : {B : Type 0} (view : B → PortFrames) (ports : List B) (unsent : List Frames) (now : FileOctets)
    (paths : List (Option (List ℕ))) (customers : List (List Step))
    → AreUnsent (map (λ b. (view b).waiting) ports) customers
    → HaveClosed (map view ports) unsent now paths → AreUnsent unsent customers
still_unsent view ports unsent now paths customers were closed = record {
  each = λ number.
      let before : waiting_of (map (λ b. (view b).waiting) ports) number ≡ (port_of (map view ports) number).waiting =
      ap (λ lists. waiting_of lists number) (sym (map-map (λ (p : PortFrames). p.waiting) view ports))
      ∙ waiting_there (map view ports) number in
      let after : (port_of closed.last number).waiting ≡ waiting_of unsent number =
      sym (waiting_there closed.last number) ∙ ap (λ lists. waiting_of lists number) (sym closed.unsent_are) in
      let frames = left (steps_of customers number) in
      subst (HasSent frames) after (sent_on frames (port_of (map view ports) number).waiting
      (port_of closed.last number).waiting (subst (HasSent frames) before (were.each number))
      (closed.went_on.each number).unsent);
}

-- the frames that were sent are those that wait no more
sent_is : (old new : Frames) (has : HasSent old new) → has.sent ≡ sent_between old new
sent_is old new has =
    let count : length old - length new ≡ length has.sent =
    omega (arith, ap length has.both, length-append has.sent new) in
    sym (ap (λ n. take n old) count ∙ ap (take (length has.sent)) (sym has.both) ∙ take-append_seam has.sent new)

-- a port whose device took what a pump wrote
pub pumped_on : (a b : PortFrames) → HasSent a.waiting b.waiting
    → IsWrittenTo a.output b.output (sent_between a.waiting b.waiting) → GoesOn a b
pumped_on a b sent wrote = record {
  unsent = sent;
  wrote = subst (IsWrittenTo a.output b.output) (sym (sent_is a.waiting b.waiting sent)) wrote;
}
