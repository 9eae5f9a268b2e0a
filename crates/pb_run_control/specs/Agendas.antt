-- The ticks at which the events of a bridge come.
use Rattle.std.specs.Prelude.{ℕ, List, Some, None, nat_le, slice_get, if◌then◌else◌}
use Rattle.std.specs.declared.option.Option.{Option}
use Rattle.std.specs.Option.{option_and_then}
use Rattle.pb_service.specs.declared.event.PortEvent.{PortEvent}
use Rattle.pb_threads.specs.declared.gate.Wish.{Wish}

-- the wish of an event
abbrev pub wish_of : PortEvent → Wish
wish_of event = record { port = event.port; up = event.up }

-- the wish of the event after the first ones, this many, if its tick has come
abbrev pub wish_due : List PortEvent → ℕ → ℕ → Option Wish
wish_due events come now = option_and_then (λ event. if nat_le event.at now then Some (wish_of event) else None) (slice_get events come)
