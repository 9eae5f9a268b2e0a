use Rattle.std.proofs.Common.{◌∙◌, ◌==◌, false, ap}
use Rattle.std.proofs.lemmas.Bool.{eq-eqb, ne_eqb}
use Rattle.pb_service.specs.declared.event.PortEvent.{PortEvent}
use Rattle.pb_run_control.proofs.EventLists.{taken, left_out}
use Rattle.pb_run_control.proofs.agenda.events_of.Goals as goal
use Rattle.pb_run_control.proofs.agenda.events_of.Goals.{then-event-bridge+in_ok-push, else-event-bridge}

-- an event for `get_or` past the end of the list
abbrev nothing : PortEvent
nothing = record { at = 0; bridge = 0; port = 0; up = false }

pub loop-event-preserved : goal.loop-event-preserved
loop-event-preserved c = elim c.if-event-bridge.branch [
  | then-event-bridge+in_ok-push w ↦
      taken (λ e. e.bridge == c.args.bridge) c.args.events.now c.loop-event.own.items _ c.loop-event.event-index
      nothing c.loop-event-test.true c.loop-event.invariant (eq-eqb _ _ w.if-event-bridge.true)
      (ap (λ v. v.items) w.own-is ∙ w.in_ok-push.ensures.items)
  | else-event-bridge w ↦
      left_out (λ e. e.bridge == c.args.bridge) c.args.events.now c.loop-event.own.items _ c.loop-event.event-index
      nothing c.loop-event-test.true c.loop-event.invariant (ne_eqb _ _ w.if-event-bridge.false)
      (ap (λ v. v.items) w.own-is)
]
