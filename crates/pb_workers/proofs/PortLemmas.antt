-- What a port outside gave and took so far, after one more call or step (for the functions of `customer`).
use Rattle.std.proofs.Common.{◌≡◌, ◌≤◌, ◌-◌, ◌||◌, ℕ, Bool, true, false, List, [], ◌∷◌, ◌++◌, Option, Some, None, All}
use Rattle.std.proofs.Common.{length}
use Rattle.std.proofs.Common.{take, drop, refl, sym, ap, ◌∙◌, subst, append_assoc, append-nil, arith, length-drop}
use Rattle.std.proofs.lemmas.List.{take-append-drop}
use Rattle.std.proofs.lemmas.List.Elements.{All-push}
use mathlib.Core.Logic.{∥∥₁_map}
use Rattle.pb_lan.specs.Counts.{entered, left}
use Rattle.pb_lan.specs.declared.step.Step.{Step}
use Rattle.pb_port.specs.Outputs.{IsWrittenTo}
use Rattle.pb_port.specs.Ports.{Frames, PolledBy, ReadsKnown, GivenBy, PumpedBy, sent_between}
use Rattle.pb_port.proofs.OutputLemmas.{written_on}
use Rattle.pb_port.specs.declared.answers.Polled.{Polled}
use Rattle.pb_port.specs.declared.answers.Polled.TheVariants.{Frame, Nothing, End, Fault}
use Rattle.pb_port.specs.declared.answers.Pumped.{Pumped}
use Rattle.pb_port.specs.declared.answers.Pumped.TheVariants.{Wrote, Nothing as pumped_nothing, Fault as pumped_fault}
use Rattle.pb_port.specs.declared.fault.PortFault.{PortFault}
use Rattle.pb_port.specs.declared.fault.PortFault.TheVariants.{Magic, Version, LinkType, Truncated, Oversize, Read}
use Rattle.pb_port.specs.declared.fault.PortFault.TheVariants.{Write, Memory}
use Rattle.pb_workers.specs.Ports.{PortFrames, KeepsPort, HasSent, HasRead, in_front, given_up, IsEnded, IsUsedUp}
use Rattle.pb_workers.specs.Ports.{IsReadUp}
use Rattle.pb_workers.specs.declared.access.Last.{Last}
use Rattle.pb_workers.specs.declared.access.Last.TheVariants.{More, End as last_end, Fault as last_fault}

-- a frame that no port takes
abbrev IsTooLong : List ℕ → Type 0
IsTooLong f = 65536 ≤ length f

in_front-twice : (xs ys : Frames) (o : Option Frames) → in_front xs (in_front ys o) ≡ in_front (xs ++ ys) o
in_front-twice xs ys None = refl
in_front-twice xs ys (Some list) = ap (λ z. Some z) (sym (append_assoc xs ys list))

in_front-none : (o : Option Frames) → o ≡ in_front [] o
in_front-none None = refl
in_front-none (Some list) = refl

-- one more call, at which the port gave these frames and took those
keeps_on : (was p p' : PortFrames) (steps steps' : List Step) (last last' : Last) (gave took : Frames)
    → KeepsPort was p steps last → p'.given ≡ p.given ++ gave → entered steps' ≡ entered steps ++ gave
    → p'.tally ≡ p.tally ++ took → left steps' ≡ left steps ++ took → p.script ≡ in_front gave p'.script
    → IsEnded last' p'.script → p'.waiting ≡ p.waiting ++ took
    → (p'.is_over ≡ false → All IsTooLong (given_up steps')) → HasRead last' was.unread (entered steps') p'.unread
    → p'.output ≡ p.output → KeepsPort was p' steps' last'
keeps_on was p p' steps steps' last last' gave took kept given came tally went script ended waits gone read output =
    record {
      given = given ∙ ap (λ z. z ++ gave) kept.given ∙ append_assoc was.given (entered steps) gave
          ∙ ap (λ z. was.given ++ z) (sym came);
      tally = tally ∙ ap (λ z. z ++ took) kept.tally ∙ append_assoc was.tally (left steps) took
          ∙ ap (λ z. was.tally ++ z) (sym went);
      script = kept.script ∙ ap (in_front (entered steps)) script ∙ in_front-twice (entered steps) gave p'.script
          ∙ ap (λ z. in_front z p'.script) (sym came);
      used_up = ended;
      unsent = record {
        sent = kept.unsent.sent;
        both = ap (λ z. kept.unsent.sent ++ z) waits ∙ sym (append_assoc kept.unsent.sent p.waiting took)
            ∙ ap (λ z. z ++ took) kept.unsent.both ∙ append_assoc was.waiting (left steps) took
            ∙ ap (λ z. was.waiting ++ z) (sym went);
      };
      read = read;
      wrote = subst (λ o. ∥ IsWrittenTo was.output o kept.unsent.sent ∥₁) (sym output) kept.wrote;
      gone = gone;
    }

-- a poll with this frame
reads_frame : (f : List ℕ) (last : Last) (was old new : Option Frames) (fs : Frames) → HasRead last was fs old
    → ReadsKnown (Frame f) old new → HasRead More was (fs ++ f ∷ []) new
reads_frame f last None old new fs read polled = tt
reads_frame f last (Some was) None new fs read polled = absurd read
reads_frame f last (Some was) (Some old) None fs read polled = absurd polled
reads_frame f last (Some was) (Some old) (Some new) fs (e, up) polled =
    (e ∙ ap (λ z. fs ++ z) polled ∙ sym (append_assoc fs (f ∷ []) new), tt)

-- a result after which a later poll may return more
abbrev IsForNow : Polled → Type 0
IsForNow Nothing = Unit {0}
IsForNow (Fault Memory) = Unit {0}
IsForNow other = ⊥

still_read : (last : Last) (was old new fs : Frames) → (was ≡ fs ++ old) × IsReadUp last old → new ≡ old
    → (was ≡ fs ++ new) × IsReadUp last new
still_read last was old new fs read same = subst (λ z. (was ≡ fs ++ z) × IsReadUp last z) (sym same) read

reads_nothing : (r : Polled) (last : Last) (was old new : Option Frames) (fs : Frames) → IsForNow r
    → HasRead last was fs old → ReadsKnown r old new → HasRead last was fs new
reads_nothing r last None old new fs now read polled = tt
reads_nothing r last (Some was) None new fs now read polled = absurd read
reads_nothing r last (Some was) (Some old) None fs now read polled = absurd polled
reads_nothing Nothing last (Some was) (Some old) (Some new) fs now read polled =
    still_read last was old new fs read polled
reads_nothing (Fault Memory) last (Some was) (Some old) (Some new) fs now read polled =
    still_read last was old new fs read polled.0
reads_nothing (Frame f) last (Some was) (Some old) (Some new) fs now read polled = absurd now
reads_nothing End last (Some was) (Some old) (Some new) fs now read polled = absurd now
reads_nothing (Fault Magic) last (Some was) (Some old) (Some new) fs now read polled = absurd now
reads_nothing (Fault Version) last (Some was) (Some old) (Some new) fs now read polled = absurd now
reads_nothing (Fault LinkType) last (Some was) (Some old) (Some new) fs now read polled = absurd now
reads_nothing (Fault Truncated) last (Some was) (Some old) (Some new) fs now read polled = absurd now
reads_nothing (Fault Oversize) last (Some was) (Some old) (Some new) fs now read polled = absurd now
reads_nothing (Fault Read) last (Some was) (Some old) (Some new) fs now read polled = absurd now
reads_nothing (Fault Write) last (Some was) (Some old) (Some new) fs now read polled = absurd now

reads_end : (last : Last) (was old new : Option Frames) (fs : Frames) → HasRead last was fs old
    → ReadsKnown End old new → HasRead last_end was fs new
reads_end last None old new fs read polled = tt
reads_end last (Some was) None new fs read polled = absurd read
reads_end last (Some was) (Some old) None fs read polled = absurd polled
reads_end last (Some was) (Some old) (Some new) fs (e, up) (none, none') =
    (e ∙ ap (λ z. fs ++ z) (none ∙ sym none'), none')

reads_fault : (k : PortFault) (last : Last) (was old new : Option Frames) (fs : Frames) → HasRead last was fs old
    → ReadsKnown (Fault k) old new → HasRead (last_fault k) was fs new
reads_fault k last None old new fs read polled = tt
reads_fault k last (Some was) None new fs read polled = absurd read
reads_fault k last (Some was) (Some old) None fs read polled = absurd polled
reads_fault k last (Some was) (Some old) (Some new) fs (e, up) (same, none) =
    (e ∙ ap (λ z. fs ++ z) (sym same), none)

-- nothing was read, and no frame entered
reads_still : (last last' : Last) (was old new : Option Frames) (fs fs' : Frames) → HasRead last was fs old
    → new ≡ old → fs' ≡ fs → last' ≡ last → HasRead last' was fs' new
reads_still last last' was old new fs fs' read same came still =
    subst (λ l. HasRead l was fs' new) (sym still)
    (subst (λ z. HasRead last was z new) (sym came) (subst (HasRead last was fs) (sym same) read))

same_more : {X : Type 0} (a b : List X) → b ≡ a → b ≡ a ++ []
same_more a b e = e ∙ sym (append-nil a)

-- what was given up so far, at a port that is over only if it was over before
long_still : (over over' : Bool) (lost lost' : Frames) → (over ≡ false → All IsTooLong lost) → over' ≡ over
    → lost' ≡ lost → over' ≡ false → All IsTooLong lost'
long_still over over' lost lost' all same e on = subst (All IsTooLong) (sym e) (all (sym same ∙ on))

-- a poll that returned a frame, and the step that takes it in
pub keeps_frame : {was p p' : PortFrames} {steps steps' : List Step} {last last' : Last} (f : List ℕ)
    → KeepsPort was p steps last → PolledBy (Frame f) p.script p'.script → GivenBy (Frame f) p.given p'.given
    → p'.tally ≡ p.tally → p'.waiting ≡ p.waiting → p'.is_over ≡ p.is_over
    → ReadsKnown (Frame f) p.unread p'.unread → p'.output ≡ p.output
    → entered steps' ≡ entered steps ++ f ∷ [] → left steps' ≡ left steps → given_up steps' ≡ given_up steps
    → last' ≡ More → KeepsPort was p' steps' last'
keeps_frame {was} {p} {p'} {steps} {steps'} {last} {last'} f kept polled given tally waits over read output came went
    lost more =
    keeps_on was p p' steps steps' last last' (f ∷ []) [] kept given came (same_more p.tally p'.tally tally)
    (same_more (left steps) (left steps') went) (first p.script p'.script polled)
    (subst (λ l. IsEnded l p'.script) (sym more) tt) (same_more p.waiting p'.waiting waits)
    (long_still p.is_over p'.is_over (given_up steps) (given_up steps') kept.gone over lost)
    (subst (λ l. HasRead l was.unread (entered steps') p'.unread) (sym more)
    (subst (λ z. HasRead More was.unread z p'.unread) (sym came)
    (reads_frame f last was.unread p.unread p'.unread (entered steps) kept.read read))) output
  where
    first : (old new : Option Frames) → PolledBy (Frame f) old new → old ≡ in_front (f ∷ []) new
    first (Some old) (Some new) is = ap (λ z. Some z) is
    first None None is = refl
    first None (Some new) is = absurd is
    first (Some old) None is = absurd is

-- a poll that returned no frame
abbrev IsNoFrame : Polled → Type 0
IsNoFrame (Frame f) = ⊥
IsNoFrame other = Unit {0}

script_still : (r : Polled) (old new : Option Frames) → IsNoFrame r → PolledBy r old new → old ≡ in_front [] new
script_still (Frame f) old new none is = absurd none
script_still r None None none is = refl
script_still r None (Some new) none is = absurd is
script_still r (Some old) None none is = absurd is
script_still End (Some old) (Some new) none is = ap (λ z. Some z) (is.0 ∙ sym is.1)
script_still Nothing (Some old) (Some new) none is = absurd is
script_still (Fault k) (Some old) (Some new) none is = absurd is

given_still : (r : Polled) (old new : Frames) → IsNoFrame r → GivenBy r old new → new ≡ old ++ []
given_still (Frame f) old new none is = absurd none
given_still Nothing old new none is = same_more old new is
given_still End old new none is = same_more old new is
given_still (Fault k) old new none is = same_more old new is

no_frame : (r : Polled) (was p p' : PortFrames) (steps : List Step) (last last' : Last) → IsNoFrame r
    → KeepsPort was p steps last → PolledBy r p.script p'.script → GivenBy r p.given p'.given
    → p'.tally ≡ p.tally → p'.waiting ≡ p.waiting → p'.is_over ≡ p.is_over → IsEnded last' p'.script
    → HasRead last' was.unread (entered steps) p'.unread → p'.output ≡ p.output → KeepsPort was p' steps last'
no_frame r was p p' steps last last' none kept polled given tally waits over ended read output =
    keeps_on was p p' steps steps last last' [] [] kept (given_still r p.given p'.given none given)
    (same_more (entered steps) (entered steps) refl) (same_more p.tally p'.tally tally)
    (same_more (left steps) (left steps) refl) (script_still r p.script p'.script none polled) ended
    (same_more p.waiting p'.waiting waits)
    (long_still p.is_over p'.is_over (given_up steps) (given_up steps) kept.gone over refl) read output

script_same : (r : Polled) (old new : Option Frames) → IsNoFrame r → PolledBy r old new → new ≡ old
script_same r old new none is = in_front-none new ∙ sym (script_still r old new none is)

pub keeps_nothing : {was p p' : PortFrames} {steps : List Step} {last : Last} (r : Polled) → IsNoFrame r → IsForNow r
    → KeepsPort was p steps last
    → PolledBy r p.script p'.script → GivenBy r p.given p'.given → p'.tally ≡ p.tally → p'.waiting ≡ p.waiting
    → p'.is_over ≡ p.is_over → ReadsKnown r p.unread p'.unread → p'.output ≡ p.output → KeepsPort was p' steps last
keeps_nothing {was} {p} {p'} {steps} {last} r none now kept polled given tally waits over read output =
    no_frame r was p p' steps last last none kept polled given tally waits over
    (subst (IsEnded last) (sym (script_same r p.script p'.script none polled)) kept.used_up)
    (reads_nothing r last was.unread p.unread p'.unread (entered steps) now kept.read read) output

pub keeps_end : {was p p' : PortFrames} {steps : List Step} {last : Last} → KeepsPort was p steps last
    → PolledBy End p.script p'.script → GivenBy End p.given p'.given → p'.tally ≡ p.tally → p'.waiting ≡ p.waiting
    → p'.is_over ≡ p.is_over → ReadsKnown End p.unread p'.unread → p'.output ≡ p.output
    → KeepsPort was p' steps last_end
keeps_end {was} {p} {p'} {steps} {last} kept polled given tally waits over read output =
    no_frame End was p p' steps last last_end tt kept polled given tally waits over (used p.script p'.script polled)
    (reads_end last was.unread p.unread p'.unread (entered steps) kept.read read) output
  where
    used : (old new : Option Frames) → PolledBy End old new → IsUsedUp new
    used (Some old) (Some new) is = is.1
    used None None is = tt
    used None (Some new) is = absurd is
    used (Some old) None is = absurd is

pub keeps_fault : {was p p' : PortFrames} {steps : List Step} {last : Last} (k : PortFault)
    → KeepsPort was p steps last → PolledBy (Fault k) p.script p'.script → GivenBy (Fault k) p.given p'.given
    → p'.tally ≡ p.tally → p'.waiting ≡ p.waiting → p'.is_over ≡ p.is_over
    → ReadsKnown (Fault k) p.unread p'.unread → p'.output ≡ p.output → KeepsPort was p' steps (last_fault k)
keeps_fault {was} {p} {p'} {steps} {last} k kept polled given tally waits over read output =
    no_frame (Fault k) was p p' steps last (last_fault k) tt kept polled given tally waits over tt
    (reads_fault k last was.unread p.unread p'.unread (entered steps) kept.read read) output

-- an offer that was taken, and the step that lets the frame out
pub keeps_taken : {was p p' : PortFrames} {steps steps' : List Step} {last last' : Last} (f : List ℕ)
    → KeepsPort was p steps last → p'.script ≡ p.script → p'.given ≡ p.given → p'.tally ≡ p.tally ++ f ∷ []
    → p'.waiting ≡ p.waiting ++ f ∷ [] → p'.is_over ≡ p.is_over → p'.unread ≡ p.unread → p'.output ≡ p.output
    → entered steps' ≡ entered steps → left steps' ≡ left steps ++ f ∷ [] → given_up steps' ≡ given_up steps ++ []
    → last' ≡ last → KeepsPort was p' steps' last'
keeps_taken {was} {p} {p'} {steps} {steps'} {last} {last'} f kept script given tally waits over unread output came went
    lost same =
    keeps_on was p p' steps steps' last last' [] (f ∷ []) kept (same_more p.given p'.given given)
    (same_more (entered steps) (entered steps') came) tally went (sym script ∙ in_front-none p'.script)
    (subst (λ l. IsEnded l p'.script) (sym same) (subst (IsEnded last) (sym script) kept.used_up)) waits
    (long_still p.is_over p'.is_over (given_up steps) (given_up steps') kept.gone over
    (lost ∙ append-nil (given_up steps)))
    (reads_still last last' was.unread p.unread p'.unread (entered steps) (entered steps') kept.read unread came same)
    output

-- an item that is given up, and the step that says so: the port is over, or takes no such frame
pub keeps_given_up : {was p p' : PortFrames} {steps steps' : List Step} {last last' : Last} (f : List ℕ)
    → KeepsPort was p steps last → p'.script ≡ p.script → p'.given ≡ p.given → p'.tally ≡ p.tally
    → p'.waiting ≡ p.waiting → p'.is_over ≡ p.is_over → p'.unread ≡ p.unread → p'.output ≡ p.output
    → (p.is_over ≡ false → 65536 ≤ length f)
    → entered steps' ≡ entered steps → left steps' ≡ left steps ++ [] → given_up steps' ≡ given_up steps ++ f ∷ []
    → last' ≡ last → KeepsPort was p' steps' last'
keeps_given_up {was} {p} {p'} {steps} {steps'} {last} {last'} f kept script given tally waits over unread output long
    came went lost same =
    keeps_on was p p' steps steps' last last' [] [] kept (same_more p.given p'.given given)
    (same_more (entered steps) (entered steps') came) (same_more p.tally p'.tally tally) went
    (sym script ∙ in_front-none p'.script)
    (subst (λ l. IsEnded l p'.script) (sym same) (subst (IsEnded last) (sym script) kept.used_up))
    (same_more p.waiting p'.waiting waits)
    (λ on. subst (All IsTooLong) (sym lost)
    (All-push IsTooLong (given_up steps) f (kept.gone (sym over ∙ on)) (long (sym over ∙ on))))
    (reads_still last last' was.unread p.unread p'.unread (entered steps) (entered steps') kept.read unread came same)
    output

-- no frame entered, left or was given up, and none was given or taken
pub keeps_still : {was p p' : PortFrames} {steps steps' : List Step} {last last' : Last}
    → KeepsPort was p steps last → p'.script ≡ p.script → p'.given ≡ p.given → p'.tally ≡ p.tally
    → p'.waiting ≡ p.waiting → p'.is_over ≡ p.is_over → p'.unread ≡ p.unread → p'.output ≡ p.output
    → entered steps' ≡ entered steps → left steps' ≡ left steps
    → given_up steps' ≡ given_up steps → last' ≡ last → KeepsPort was p' steps' last'
keeps_still {was} {p} {p'} {steps} {steps'} {last} {last'} kept script given tally waits over unread output came went
    lost same =
    keeps_on was p p' steps steps' last last' [] [] kept (same_more p.given p'.given given)
    (same_more (entered steps) (entered steps') came) (same_more p.tally p'.tally tally)
    (same_more (left steps) (left steps') went) (sym script ∙ in_front-none p'.script)
    (subst (λ l. IsEnded l p'.script) (sym same) (subst (IsEnded last) (sym script) kept.used_up))
    (same_more p.waiting p'.waiting waits)
    (long_still p.is_over p'.is_over (given_up steps) (given_up steps') kept.gone over lost)
    (reads_still last last' was.unread p.unread p'.unread (entered steps) (entered steps') kept.read unread came same)
    output

-- the frames that a pump sent are the first that waited
first_sent : (r : Pumped) (old new : Frames) (failed failed' : Bool) (m n : ℕ)
    → PumpedBy r old new failed failed' m n → (k : ℕ) × (k ≤ length old) × (new ≡ drop k old)
first_sent (Wrote k) old new failed failed' m n is = (k, is.1, is.2)
first_sent pumped_nothing old new failed failed' m n is = (0, omega arith, is.0)
first_sent (pumped_fault Memory) old new failed failed' m n is = (0, omega arith, is.1.0)
first_sent (pumped_fault Write) old new true failed' m n is = (0, omega arith, is.0)
first_sent (pumped_fault Write) old new false failed' m n is = (is.0.0, omega (arith, is.0.1), is.0.2)
first_sent (pumped_fault Magic) old new failed failed' m n is = absurd is
first_sent (pumped_fault Version) old new failed failed' m n is = absurd is
first_sent (pumped_fault LinkType) old new failed failed' m n is = absurd is
first_sent (pumped_fault Truncated) old new failed failed' m n is = absurd is
first_sent (pumped_fault Oversize) old new failed failed' m n is = absurd is
first_sent (pumped_fault Read) old new failed failed' m n is = absurd is

pumped_both : (r : Pumped) (old new : Frames) (failed failed' : Bool) (m n : ℕ)
    → PumpedBy r old new failed failed' m n → sent_between old new ++ new ≡ old
pumped_both r old new failed failed' m n is =
    let first = first_sent r old new failed failed' m n is in
    let count : length old - length new ≡ first.0 =
    omega (arith, ap length first.2, length-drop first.0 old, first.1) in
    ap (λ k. take k old ++ new) count ∙ ap (λ z. take first.0 old ++ z) first.2 ∙ take-append-drop first.0 old

pub has_pumped : (r : Pumped) (old new : Frames) (failed failed' : Bool) (m n : ℕ)
    → PumpedBy r old new failed failed' m n → HasSent old new
has_pumped r old new failed failed' m n is =
    record { sent = sent_between old new; both = pumped_both r old new failed failed' m n is }

-- frames that were sent after others
pub sent_on : (a b c : Frames) → HasSent a b → HasSent b c → HasSent a c
sent_on a b c one two = record {
  sent = one.sent ++ two.sent;
  both = append_assoc one.sent two.sent c ∙ ap (λ z. one.sent ++ z) two.both ∙ one.both;
}

-- a port at which no write has failed after a pump is one at which none had failed before
pub unfailed : (r : Pumped) (old new : Frames) (failed failed' : Bool) (m n : ℕ)
    → PumpedBy r old new failed failed' m n → failed' ≡ false → failed ≡ false
unfailed r old new false failed' m n is e = refl
unfailed (Wrote k) old new true failed' m n is e = is.3
unfailed pumped_nothing old new true failed' m n is e = is.1
unfailed (pumped_fault Memory) old new true failed' m n is e = is.1.1
unfailed (pumped_fault Write) old new true failed' m n is e = sym is.1 ∙ e
unfailed (pumped_fault Magic) old new true failed' m n is e = absurd is
unfailed (pumped_fault Version) old new true failed' m n is e = absurd is
unfailed (pumped_fault LinkType) old new true failed' m n is e = absurd is
unfailed (pumped_fault Truncated) old new true failed' m n is e = absurd is
unfailed (pumped_fault Oversize) old new true failed' m n is e = absurd is
unfailed (pumped_fault Read) old new true failed' m n is e = absurd is

over_less : (shelved shelved' failed failed' : Bool) → shelved' ≡ shelved → (failed' ≡ false → failed ≡ false)
    → (shelved' || failed') ≡ false → (shelved || failed) ≡ false
over_less true true failed failed' same less over = over
over_less true false failed failed' same less over = cc
over_less false true failed failed' same less over = cc
over_less false false failed failed' same less over = less over

pub never : {X : Type 0} (over : Bool) → over ≡ true → over ≡ false → X
never over on off = cc

pub over_same : (shelved shelved' failed failed' : Bool) → shelved' ≡ shelved → failed' ≡ failed
    → (shelved' || failed') ≡ (shelved || failed)
over_same shelved shelved' failed failed' a b = ap (λ z. z || failed') a ∙ ap (λ z. shelved || z) b

-- steps and a newest poll that are equal
pub keeps_same : {was p : PortFrames} {steps steps' : List Step} {last last' : Last} → KeepsPort was p steps last
    → steps' ≡ steps → last' ≡ last → KeepsPort was p steps' last'
keeps_same {was} {p} {steps} {steps'} {last} {last'} kept same still =
    subst (λ s. KeepsPort was p s last') (sym same) (subst (λ l. KeepsPort was p steps l) (sym still) kept)

-- a pump: some frames that waited were sent
pub keeps_pumped : {was p p' : PortFrames} {steps : List Step} {last : Last} (shelved shelved' failed failed' : Bool)
    (r : Pumped) (m n : ℕ) → KeepsPort was p steps last
    → PumpedBy r p.waiting p'.waiting failed failed' m n → p'.script ≡ p.script → p'.given ≡ p.given
    → p'.tally ≡ p.tally → p'.unread ≡ p.unread → IsWrittenTo p.output p'.output (sent_between p.waiting p'.waiting)
    → shelved' ≡ shelved → p.is_over ≡ (shelved || failed) → p'.is_over ≡ (shelved' || failed')
    → KeepsPort was p' steps last
keeps_pumped {was} {p} {p'} {steps} {last} shelved shelved' failed failed' r m n kept is script given tally unread
    output same over over' =
    let sent = sent_between p.waiting p'.waiting in
    record {
      given = given ∙ kept.given;
      tally = tally ∙ kept.tally;
      script = kept.script ∙ ap (in_front (entered steps)) (sym script);
      used_up = subst (IsEnded last) (sym script) kept.used_up;
      unsent = record {
        sent = kept.unsent.sent ++ sent;
        both = append_assoc kept.unsent.sent sent p'.waiting
            ∙ ap (λ z. kept.unsent.sent ++ z) (pumped_both r p.waiting p'.waiting failed failed' m n is)
            ∙ kept.unsent.both;
      };
      read = subst (HasRead last was.unread (entered steps)) (sym unread) kept.read;
      wrote = ∥∥₁_map kept.wrote (λ before. written_on was.output p.output p'.output kept.unsent.sent sent before
          output);
      gone = λ on. kept.gone (over ∙ over_less shelved shelved' failed failed' same
          (unfailed r p.waiting p'.waiting failed failed' m n is) (sym over' ∙ on));
    }
