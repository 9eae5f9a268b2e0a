use Rattle.std.proofs.Common.{◌≡◌, ◌==◌, take}
use Rattle.std.specs.List.{filter}
use Rattle.pb_run_control.proofs.agenda.events_of.Given as goal

abbrev pub invariant-loop-event : goal.invariant-loop-event
invariant-loop-event l = l.own.items ≡ filter (λ e. e.bridge == l.fn.bridge) (take l.event-index l.fn.events)
