-- Events that were performed one after the other.
use Rattle.std.proofs.Common.{◌≡◌, ◌≤◌, ◌<◌, ◌+◌, ◌-◌, ℕ, Bool, true, List, [], ◌∷◌, ◌++◌, length, Ok, Err, refl, sym}
use Rattle.std.proofs.Common.{ap}
use Rattle.std.proofs.Common.{subst, ◌∙◌, arith, length-append}
use Rattle.pb_frame.proofs.Counting.{count_by-append}
use Rattle.pb_frame.proofs.Lists.{All-append}
use Rattle.pb_lan.specs.declared.event.Event.{Event}
use Rattle.pb_lan.specs.declared.step.Place.{Place}
use Rattle.pb_net.specs.Answers.{NetView, IsAnswer}
use Rattle.std.specs.declared.result.Result.{Result}
use Rattle.pb_net.specs.declared.did.Did.{Did}
use Rattle.pb_net.specs.declared.did.Did.TheVariants.{Idle, Done}
use Rattle.pb_net.specs.declared.fault.NetFault.{NetFault}
use Rattle.pb_net.specs.declared.fault.NetFault.TheVariants.{StepLimit, Memory, NoSuch}
use Rattle.pb_converge.proofs.FewLemmas.{few-none, few-append, few-lower, few-onward, count-onward}
use Rattle.pb_converge.specs.Drives.{is_onward, HaveDone, HaveGone, HasStopped, HasBeenDriven}
use Rattle.pb_converge.specs.Drives.{IsAtLimit, IsReason, IsRefusal}
use Rattle.pb_converge.specs.declared.fault.DriveFault.{DriveFault}
use Rattle.pb_converge.specs.declared.fault.DriveFault.TheVariants.{Memory as drive_memory, Steps, Events}

-- two runs of events in a row are one
pub done-append : (old mid new : NetView) (front back : List Event) → HaveDone old front mid → HaveDone mid back new
    → HaveDone old (front ++ back) new
done-append old mid new [] back e h = subst (λ v. HaveDone v back new) e h
done-append old mid new (event ∷ front) back (between, answer, rest) h =
    (between, answer, done-append between mid new front back rest h)

-- a single event that was performed
pub done-one : (old new : NetView) (event : Event) (place : Place) → IsAnswer old event (Ok (Done place)) new
    → HaveDone old (event ∷ []) new
done-one old new event place h = (new, subst (λ p. IsAnswer old event (Ok (Done p)) new) h.1 h, refl)

-- events leave the plan unchanged
pub done-plan : (old new : NetView) (events : List Event) → HaveDone old events new → new.plan ≡ old.plan
done-plan old new [] e = ap (λ v. v.plan) e
done-plan old new (event ∷ events) (between, answer, rest) = done-plan between new events rest ∙ answer.2

-- events leave it as it is whether the steps are kept
pub done-kept : (old new : NetView) (events : List Event) → HaveDone old events new → new.is_kept ≡ old.is_kept
done-kept old new [] e = ap (λ v. v.is_kept) e
done-kept old new (event ∷ events) (between, answer, rest) = done-kept between new events rest ∙ answer.4

pub answer-plan : (old new : NetView) (event : Event) (result : Result Did NetFault) → IsAnswer old event result new
    → new.plan ≡ old.plan
answer-plan old new event (Err NoSuch) h = ap (λ v. v.plan) h.1
answer-plan old new event (Err StepLimit) h = ap (λ v. v.plan) h.3
answer-plan old new event (Err Memory) h = ap (λ v. v.plan) h.1
answer-plan old new event (Ok Idle) h = ap (λ v. v.plan) h.2
answer-plan old new event (Ok (Done place)) h = h.2

-- no event leaves the network unchanged
done-nothing : (old new : NetView) (events : List Event) → length events ≡ 0 → HaveDone old events new → new ≡ old
done-nothing old new [] n e = e
done-nothing old new (event ∷ events) n h = absurd (omega (arith, n))

pub gone-none : (kind : Event → Bool) (old new : NetView) → new ≡ old → HaveGone kind 0 old new
gone-none kind old new e = record { events = []; kinds = tt; done = e; number = refl }

pub gone-nothing : (kind : Event → Bool) (count : ℕ) (old new : NetView) → HaveGone kind count old new → count ≡ 0
    → new ≡ old
gone-nothing kind count old new g z = done-nothing old new g.events (g.number ∙ z) g.done

pub gone-one : (kind : Event → Bool) (old new : NetView) (event : Event) (place : Place) → kind event ≡ true
    → IsAnswer old event (Ok (Done place)) new → HaveGone kind 1 old new
gone-one kind old new event place is h =
    record { events = event ∷ []; kinds = (is, tt); done = done-one old new event place h; number = refl }

pub gone-append : (kind : Event → Bool) (a b : ℕ) (old mid new : NetView) → HaveGone kind a old mid
    → HaveGone kind b mid new → HaveGone kind (a + b) old new
gone-append kind a b old mid new f s = record {
  events = f.events ++ s.events;
  kinds = All-append (λ e. kind e ≡ true) f.events s.events f.kinds s.kinds;
  done = done-append old mid new f.events s.events f.done s.done;
  number = omega (arith, length-append f.events s.events, f.number, s.number);
}

-- an event that was due at a place that may take no more steps
pub at_limit : (old new : NetView) (event : Event) → IsAnswer old event (Err StepLimit) new → IsAtLimit new
at_limit old new event h =
    subst (λ v. IsAtLimit v) (sym h.3) (record { event = event; named = h.0; busy = h.1; full = h.2 })

-- the reason why an event was not performed is one to end early
pub refusal_is_reason : (fault : DriveFault) (most count : ℕ) (net : NetView) → IsRefusal fault net
    → IsReason fault most count net
refusal_is_reason drive_memory most count net h = tt
refusal_is_reason Steps most count net h = h
refusal_is_reason Events most count net h = absurd h

-- a reason to end early is one with earlier events too
pub reason-later : (fault : DriveFault) (most a c : ℕ) (net : NetView) → a ≤ most → IsReason fault (most - a) c net
    → IsReason fault most (a + c) net
reason-later drive_memory most a c net within h = tt
reason-later Steps most a c net within h = h
reason-later Events most a c net within h =
    let rest : most - a < c = h in
    omega (arith, within, rest)

pub stopped-over : (most : ℕ) (old new : NetView) (event : Event) (place : Place) → most ≡ 0 → is_onward event ≡ true
    → IsAnswer old event (Ok (Done place)) new → HasStopped most Events old new
stopped-over most old new event place z is h =
    let past : most < 1 = omega (arith, z) in
    record {
      count = 1;
      gone = gone-one is_onward old new event place is h;
      too_many = λ _. omega (arith, z);
      within =
          λ other. absurd (other refl);
      reason = past;
    }

pub stopped-full : (most : ℕ) (old new : NetView) (event : Event) → IsAnswer old event (Err StepLimit) new
    → HasStopped most Steps old new
stopped-full most old new event h = record {
  count = 0;
  gone = gone-none is_onward old new h.3;
  too_many = λ e. cc;
  within = λ other. omega arith;
  reason = at_limit old new event h;
}

pub stopped-later : (most a : ℕ) (fault : DriveFault) (old mid new : NetView) → HaveGone is_onward a old mid
    → a ≤ most → HasStopped (most - a) fault mid new → HasStopped most fault old new
stopped-later most a fault old mid new g within s =
    record {
      count = a + s.count;
      gone = gone-append is_onward a s.count old mid new g s.gone;
      too_many = λ is. omega (arith, s.too_many is, within);
      within = λ other. omega (arith, s.within other, within);
      reason = reason-later fault most a s.count new within s.reason;
    }

pub driven-none : (ticks : ℕ) (old new : NetView) → new ≡ old → HasBeenDriven ticks 0 old new
driven-none ticks old new e = record { events = []; done = e; few = few-none ticks 0 0; number = refl }

pub driven-append : {t t' a b : ℕ} (ticks count : ℕ) (old mid new : NetView) → t + t' ≤ ticks → a + b ≡ count
    → HasBeenDriven t a old mid → HasBeenDriven t' b mid new → HasBeenDriven ticks count old new
driven-append ticks count old mid new le e f s = record {
  events = f.events ++ s.events;
  done = done-append old mid new f.events s.events f.done s.done;
  few = few-lower (f.events ++ s.events) le (omega arith) (omega arith) (few-append f.events s.events f.few s.few);
  number = omega (arith, e, count_by-append is_onward f.events s.events, f.number, s.number);
}

-- events that carry on what is on its way
pub driven-gone : (count : ℕ) (old new : NetView) → HaveGone is_onward count old new → HasBeenDriven 0 count old new
driven-gone count old new g = record {
  events = g.events;
  done = g.done;
  few = few-onward g.events g.kinds;
  number = count-onward g.events g.kinds ∙ g.number;
}
