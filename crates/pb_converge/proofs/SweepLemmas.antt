-- The events that sweeps have tried.
use Rattle.std.proofs.Common.{◌≡◌, ◌+◌, ◌*◌, ◌⊎◌, inl, inr, ℕ, true, length, Ok, refl}
use Rattle.std.proofs.Common.{sym, subst, arith}
use Rattle.std.proofs.lemmas.Bool.{cases_eq}
use Rattle.pb_lan.specs.Events.{names_something}
use Rattle.pb_lan.specs.Plans.{IsNumber, IsSound}
use Rattle.pb_lan.specs.declared.event.Event.{Event}
use Rattle.pb_lan.specs.declared.event.Event.TheVariants.{Poll, Feed, Deliver, Receive, Transmit, Tick, Admin, Take}
use Rattle.pb_lan.specs.declared.event.Event.TheVariants.{Put}
use Rattle.pb_lan.specs.declared.plan.Plan.{Plan}
use Rattle.pb_lan.specs.declared.step.Place.{Place}
use Rattle.pb_net.proofs.Records.{known_number, known_lane}
use Rattle.pb_net.proofs.SpotLemmas.{bridge_there, port_there}
use Rattle.pb_net.specs.Answers.{NetView, IsAnswer}
use Rattle.pb_net.specs.Dues.{IsQuiet}
use Rattle.pb_net.specs.declared.did.Did.TheVariants.{Done}
use Rattle.pb_converge.proofs.DriveLemmas.{gone-none, gone-nothing, gone-one, gone-append}
use Rattle.pb_converge.specs.Drives.{is_onward, HaveGone, IsNotDue, HasDrained}
use Rattle.pb_converge.specs.Sweeps.{HaveTried, IsThis, IsAtLane, IsAtOneOf, IsAtPorts, IsAnywhere}

-- an event that was tried and is not due
still : (event : Event) (old new : NetView) → new ≡ old → IsNotDue old event → HaveTried (IsThis event) 0 old new
still event old new e not = record {
  gone = gone-none is_onward old new e;
  none_due = λ z other is. subst (λ x. IsNotDue new x) (sym is) (subst (λ v. IsNotDue v event) (sym e) not);
}

-- nothing is due at the ports of a bridge, or at a lane
quiet_port : (bridge : ℕ) (net : NetView) → ((port : ℕ) → IsNumber port 16 → IsQuiet net (Receive bridge port))
    → ((port : ℕ) → IsNumber port 16 → IsQuiet net (Transmit bridge port)) → (event : Event) → IsAtPorts bridge event
    → IsNotDue net event
quiet_port bridge net receives transmits event (n, range, inl is) = subst (λ x. IsNotDue net x) (sym is)
    (receives n range)
quiet_port bridge net receives transmits event (n, range, inr is) = subst (λ x. IsNotDue net x) (sym is)
    (transmits n range)

quiet_lane : (lane : ℕ) (net : NetView) → IsQuiet net (Take lane) → IsQuiet net (Put lane) → (event : Event)
    → IsAtLane lane event → IsNotDue net event
quiet_lane lane net take put event (inl is) = subst (λ x. IsNotDue net x) (sym is) take
quiet_lane lane net take put event (inr is) = subst (λ x. IsNotDue net x) (sym is) put

pub tried-quiet_ports : (bridge : ℕ) (net : NetView)
    → ((port : ℕ) → IsNumber port 16 → IsQuiet net (Receive bridge port))
    → ((port : ℕ) → IsNumber port 16 → IsQuiet net (Transmit bridge port)) → HaveTried (IsAtPorts bridge) 0 net net
tried-quiet_ports bridge net receives transmits = record {
  gone = gone-none is_onward net net refl;
  none_due = λ z event is. quiet_port bridge net receives transmits event is;
}

pub tried-quiet_lane : (lane : ℕ) (net : NetView) → IsQuiet net (Take lane) → IsQuiet net (Put lane)
    → HaveTried (IsAtLane lane) 0 net net
tried-quiet_lane lane net take put = record {
  gone = gone-none is_onward net net refl;
  none_due = λ z event is. quiet_lane lane net take put event is;
}

pub tried-done : (event : Event) (place : Place) (old new : NetView) → is_onward event ≡ true
    → IsAnswer old event (Ok (Done place)) new → HaveTried (IsThis event) 1 old new
tried-done event place old new is h =
    record { gone = gone-one is_onward old new event place is h; none_due = λ z. absurd (omega (arith, z)) }

-- two groups of tried events in a row are one
pub tried-join : (some others all : Event → Type 0) (a b : ℕ) (old mid new : NetView)
    → ((event : Event) → all event → some event ⊎ others event)
    → HaveTried some a old mid → HaveTried others b mid new → HaveTried all (a + b) old new
tried-join some others all a b old mid new which f s = record {
  gone = gone-append is_onward a b old mid new f.gone s.gone;
  none_due = λ z event is.
      let a_is : a ≡ 0 = omega (arith, z) in
      let b_is : b ≡ 0 = omega (arith, z) in
      let same = gone-nothing is_onward b mid new s.gone b_is in
      elim (which event is) [
        | inl p ↦ subst (λ v. IsNotDue v event) (sym same) (f.none_due a_is event p)
        | inr q ↦ s.none_due b_is event q
      ];
}

pub none_of : (at : ℕ → Event → Type 0) (event : Event) → IsAtOneOf at 0 event → ⊥
none_of at event (n, range, is) = omega (arith, range.0, range.1)

one_of_more : (at : ℕ → Event → Type 0) (k : ℕ) (event : Event) → IsAtOneOf at (k + 1) event → IsAtOneOf at k event
    ⊎ at (k + 1) event
one_of_more at k event (n, range, is) = elim (cases_eq n (k + 1)) [
  | inl e ↦ inr (subst (λ m. at m event) e is)
  | inr ne ↦ inl (n, (range.0, omega (arith, range.1, ne)), is)
]

pub tried-more : (at : ℕ → Event → Type 0) (k a b : ℕ) (old mid new : NetView) → HaveTried (IsAtOneOf at k) a old mid
    → HaveTried (at (k + 1)) b mid new → HaveTried (IsAtOneOf at (k + 1)) (a + b) old new
tried-more at k a b old mid new f s = tried-join (IsAtOneOf at k) (at (k + 1)) (IsAtOneOf at (k + 1)) a b old mid new
    (one_of_more at k) f s

-- a sweep tries every event that carries on what is on its way
pub anywhere : (plan : Plan) → IsSound plan → (event : Event) → is_onward event ≡ true
    → names_something plan event ≡ true → IsAnywhere plan event
anywhere plan sound (Poll port frame) is named = cc
anywhere plan sound (Feed port) is named = inl (port, known_number plan.customers port named, inr refl)
anywhere plan sound (Deliver port) is named = inl (port, known_number plan.customers port named, inl refl)
anywhere plan sound (Receive bridge port) is named =
    inr (inl (
      bridge,
      bridge_there plan sound bridge port named,
      (port, port_there plan sound bridge port named, inl refl),
    ))
anywhere plan sound (Transmit bridge port) is named =
    inr (inl (
      bridge,
      bridge_there plan sound bridge port named,
      (port, port_there plan sound bridge port named, inr refl),
    ))
anywhere plan sound (Tick bridge) is named = cc
anywhere plan sound (Admin bridge port up) is named = cc
anywhere plan sound (Take lane) is named = inr (inr (lane, known_lane lane (2 * length plan.links) named, inl refl))
anywhere plan sound (Put lane) is named = inr (inr (lane, known_lane lane (2 * length plan.links) named, inr refl))

-- after a sweep that performs nothing the network has drained
pub drained : (plan : Plan) (done more : ℕ) (old mid new : NetView) → IsSound plan → new.plan ≡ plan
    → HaveGone is_onward done old mid → HaveTried (IsAnywhere plan) more mid new → more ≡ 0
    → HasDrained done old new
drained plan done more old mid new sound e g t z = record {
  gone = subst (λ v. HaveGone is_onward done old v) (sym (gone-nothing is_onward more mid new t.gone z)) g;
  none_due = λ event is named. t.none_due z event
      (anywhere plan sound event is (subst (λ p. names_something p event ≡ true) e named)) named;
}
