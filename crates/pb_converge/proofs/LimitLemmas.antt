-- Why driving a network ended with a fault.
use Rattle.std.proofs.Common.{◌≡◌, ◌≢◌, ◌≤◌, ◌<◌, ◌+◌, ◌*◌, inl, inr, ℕ, List, [], ◌++◌, Err, subst, sym, arith}
use Rattle.std.specs.List.{count_by}
use Rattle.pb_frame.proofs.Counting.{count_by-append}
use Rattle.pb_lan.specs.declared.event.Event.{Event}
use Rattle.pb_messages.specs.declared.fault.CommandFault.TheVariants.{Steps as command_steps}
use Rattle.pb_net.specs.Answers.{NetView, IsAnswer}
use Rattle.pb_net.specs.declared.fault.NetFault.TheVariants.{StepLimit}
use Rattle.pb_converge.proofs.DriveLemmas.{at_limit, done-append, driven-gone}
use Rattle.pb_converge.proofs.FewLemmas.{few-append, few-first, few-lower, few-none}
use Rattle.pb_converge.proofs.TickLemmas.{driven-rounds}
use Rattle.pb_converge.specs.Drives.{is_onward, AreFew, HaveDone, HasBeenDriven, HasBroken, HasFailed, HasStopped}
use Rattle.pb_converge.specs.Drives.{IsAtEnd, IsCaused, IsReason, EndsAs, ReachesLimit}
use Rattle.pb_converge.specs.Enough.{HasEnoughMemory}
use Rattle.pb_converge.specs.Convergences.{fault_of}
use Rattle.pb_converge.specs.declared.fault.DriveFault.{DriveFault}
use Rattle.pb_converge.specs.declared.fault.DriveFault.TheVariants.{Memory, Steps, Events}
use Rattle.pb_converge.specs.declared.convergence.Convergence.{Convergence}
use Rattle.pb_converge.specs.declared.convergence.Convergence.TheVariants.{Given, Converged, NotConverged}

-- a reason to end early after some events is a cause, if no allocation failed in them
by_reason : (ticks most count : ℕ) (fault : DriveFault) (old new : NetView) → HasBeenDriven ticks count old new
    → (fault ≢ Memory → HasEnoughMemory new.rec) → IsReason fault most count new → IsCaused ticks 0 0 most fault old
by_reason ticks most count Memory old new d enough r = tt
by_reason ticks most count Steps old new d enough r = record {
  events = d.events;
  new = new;
  done = d.done;
  few = d.few;
  enough = enough (λ is. cc);
  limit = inl r;
}
by_reason ticks most count Events old new d enough r =
    let past : most < count_by is_onward d.events = subst (λ n. most < n) (sym d.number) r in
    record {
      events = d.events;
      new = new;
      done = d.done;
      few = d.few;
      enough = enough (λ is. cc);
      limit = inr past;
    }

pub caused-failed : (ticks most : ℕ) (fault : DriveFault) (old new : NetView)
    → (fault ≢ Memory → HasEnoughMemory new.rec) → HasFailed ticks most fault old new
    → IsCaused ticks 0 0 most fault old
caused-failed ticks most fault old new enough f =
    by_reason ticks most f.count fault old new f.driven enough f.reason

pub caused-stopped : (most : ℕ) (fault : DriveFault) (old new : NetView) → (fault ≢ Memory → HasEnoughMemory new.rec)
    → HasStopped most fault old new → IsCaused 0 0 0 most fault old
caused-stopped most fault old new enough s =
    by_reason 0 most s.count fault old new (driven-gone s.count old new s.gone) enough s.reason

pub caused-broken : {ticks polls admins : ℕ} (most : ℕ) (due : List Event) (fault : DriveFault) (old new : NetView)
    → AreFew ticks polls admins due → (fault ≢ Memory → HasEnoughMemory new.rec) → HasBroken due fault old new
    → IsCaused ticks polls admins most fault old
caused-broken most due Memory old new few enough b = tt
caused-broken most due Steps old new few enough b = record {
  events = b.events;
  new = new;
  done = b.done;
  few = few-first b.events b.later due b.parts few;
  enough = enough (λ is. cc);
  limit = inl b.refusal;
}
caused-broken most due Events old new few enough b = absurd b.refusal

-- What holds of a fault holds of the one that `fault_in` returns, if it holds of Memory.
by_told : (P : DriveFault → Type 0) (fault told : DriveFault) → (told ≢ Memory → told ≡ fault) → P Memory
    → (told ≢ Memory → P fault) → P told
by_told P fault Memory is m h = m
by_told P fault Steps is m h = subst P (sym (is (λ e. cc))) (h (λ e. cc))
by_told P fault Events is m h = subst P (sym (is (λ e. cc))) (h (λ e. cc))

pub failed-told : (ticks most : ℕ) (fault told : DriveFault) (old new : NetView) → (told ≢ Memory → told ≡ fault)
    → HasFailed ticks most fault old new → HasFailed ticks most told old new
failed-told ticks most fault told old new is f =
    by_told (λ e. HasFailed ticks most e old new) fault told is
    (record { count = f.count; driven = f.driven; reason = tt }) (λ other. f)

pub broken-told : (due : List Event) (fault told : DriveFault) (old new : NetView) → (told ≢ Memory → told ≡ fault)
    → HasBroken due fault old new → HasBroken due told old new
broken-told due fault told old new is b =
    by_told (λ e. HasBroken due e old new) fault told is
    (record { events = b.events; later = b.later; parts = b.parts; done = b.done; refusal = tt }) (λ other. b)

pub caused-told : (ticks polls admins most : ℕ) (fault told : DriveFault) (old new : NetView)
    → (told ≢ Memory → told ≡ fault) → (told ≢ Memory → HasEnoughMemory new.rec)
    → (HasEnoughMemory new.rec → IsCaused ticks polls admins most fault old)
    → IsCaused ticks polls admins most told old
caused-told ticks polls admins most fault told old new is enough h =
    by_told (λ e. IsCaused ticks polls admins most e old) fault told is tt (λ other. h (enough other))

-- a limit that is reached after some events, and with other numbers
limit-later : {t p a t' p' a' : ℕ} (most : ℕ) (events : List Event) (old mid : NetView) → AreFew t p a events
    → HaveDone old events mid → ReachesLimit t' p' a' most mid → ReachesLimit (t + t') (p + p') (a + a') most old
limit-later most events old mid few h r = record {
  events = events ++ r.events;
  new = r.new;
  done = done-append old mid r.new events r.events h r.done;
  few = few-append events r.events few r.few;
  enough = r.enough;
  limit = elim r.limit [
    | inl full ↦ inl full
    | inr past ↦ inr (omega (arith, count_by-append is_onward events r.events, past))
  ];
}

limit-lower : {t p a t' p' a' : ℕ} (most least : ℕ) (old : NetView) → t ≤ t' → p ≤ p' → a ≤ a' → least ≤ most
    → ReachesLimit t p a most old → ReachesLimit t' p' a' least old
limit-lower most least old ticks polls admins le r = record {
  events = r.events;
  new = r.new;
  done = r.done;
  few = few-lower r.events ticks polls admins r.few;
  enough = r.enough;
  limit = elim r.limit [ inl full ↦ inl full | inr past ↦ inr (omega (arith, le, past)) ];
}

pub caused-later : {t p a : ℕ} (ticks polls admins most : ℕ) (fault : DriveFault) (events : List Event)
    (old mid : NetView) → AreFew t p a events → HaveDone old events mid → IsCaused ticks polls admins most fault mid
    → IsCaused (t + ticks) (p + polls) (a + admins) most fault old
caused-later ticks polls admins most Memory events old mid few h c = tt
caused-later ticks polls admins most Steps events old mid few h c = limit-later most events old mid few h c
caused-later ticks polls admins most Events events old mid few h c = limit-later most events old mid few h c

pub caused-lower : (t p a t' p' a' most least : ℕ) (fault : DriveFault) (old : NetView) → t ≤ t' → p ≤ p' → a ≤ a'
    → least ≤ most → IsCaused t p a most fault old → IsCaused t' p' a' least fault old
caused-lower t p a t' p' a' most least Memory old ticks polls admins le c = tt
caused-lower t p a t' p' a' most least Steps old ticks polls admins le c =
    limit-lower most least old ticks polls admins le c
caused-lower t p a t' p' a' most least Events old ticks polls admins le c =
    limit-lower most least old ticks polls admins le c

-- the fault Steps of a command comes only of a limit that is reached
pub steps_caused : (ticks polls admins most : ℕ) (fault : DriveFault) (old : NetView)
    → IsCaused ticks polls admins most fault old → fault_of fault ≡ command_steps
    → ReachesLimit ticks polls admins most old
steps_caused ticks polls admins most Memory old c e = cc
steps_caused ticks polls admins most Steps old c e = c
steps_caused ticks polls admins most Events old c e = c

-- an event that was due at a place that may take no more steps
pub caused-full : (ticks polls admins most : ℕ) (event : Event) (old new : NetView) → IsAnswer old event (Err StepLimit) new
    → HasEnoughMemory new.rec → IsCaused ticks polls admins most Steps old
caused-full ticks polls admins most event old new h enough = record {
  events = [];
  new = new;
  done = h.3;
  few = few-none ticks polls admins;
  enough = enough;
  limit = inl (at_limit old new event h);
}

-- the events of some rounds
rounds-done : (most rounds count : ℕ) (old new : NetView) → rounds ≤ most → HasBeenDriven rounds count old new
    → (es : List Event) × HaveDone old es new × AreFew most 0 0 es
rounds-done most rounds count old new le d =
    (d.events, d.done, few-lower d.events le (omega arith) (omega arith) d.few)

at_most : (most rounds : ℕ) (old new : NetView) → IsAtEnd most rounds old new → rounds ≤ most
at_most most rounds old new (inl e) = omega (arith, e)
at_most most rounds old new (inr r) =
    let whole : rounds + r.whole * r.period ≡ most = r.rest in
    omega (arith, whole)

-- the events until convergence
pub rested-done : (most events : ℕ) (rest : Convergence) (old new : NetView) → EndsAs most events rest old new
    → (es : List Event) × HaveDone old es new × AreFew most 0 0 es
rested-done most events Given old new h = ([], h.1, few-none most 0 0)
rested-done most events (Converged ticks) old new h =
    rounds-done most ticks h.3.count old new h.2 (driven-rounds ticks h.3.count old new h.3.rounds)
rested-done most events (NotConverged ticks) old new (by_protocol, at, rounds, gone, at_end, not_converged) =
    rounds-done most rounds gone.count old new (at_most most rounds old new at_end)
    (driven-rounds rounds gone.count old new gone.rounds)
