-- The events of a document, and when one is refused.
use Rattle.std.proofs.Common.{◌≡◌, ℕ, List, Some, Result, Err, IfErr}
use Rattle.std.specs.Prelude.{slice_get}
use Rattle.std.specs.List.{AllZip}
use Rattle.toml.specs.Data.{Members}
use Rattle.pb_service.specs.declared.event.PortEvent.{PortEvent}
use Rattle.pb_service.specs.declared.fault.PlanFault.{PlanFault}
use Rattle.pb_service.specs.declared.section.Section.TheVariants.{Bridge, Event}
use Rattle.pb_service.specs.declared.used.LocalPort.{LocalPort}
use Rattle.pb_service.specs.Events.{IsEventOf}
use Rattle.pb_service.specs.Formats.{event_keys}
use Rattle.pb_service.specs.Refusals.{Refuses, RefusesEvent, ends_told, names_of, in_event}
use Rattle.pb_service.specs.Tables.{IsRead}
use Rattle.pb_service.specs.Told.{rows_of}

-- the fault of an event refuses the document (used by `read_events`)
pub event_passed : {X : Type 0} (document : Members) (bridges : List (List ℕ)) (ends : List LocalPort) (index : ℕ)
    (row : Members) (r : Result X PlanFault) (e : PlanFault)
    → bridges ≡ names_of document Bridge → ends ≡ ends_told document
    → slice_get (rows_of document Event) index ≡ Some row → ((y : PlanFault) × (r ≡ Err y) × (y ≡ e))
    → RefusesEvent bridges ends index row e → IfErr r (Refuses document)
event_passed document bridges ends index row r e names told at p h =
    rw (p.1, p.2) (in_event document index row e at (rw (← told, ← names) h))

-- the events of all tables, with the names and ends of the document (used by `read_events`)
pub events_whole : (document : Members) (bridges : List (List ℕ)) (ends : List LocalPort) (events : List PortEvent)
    → bridges ≡ names_of document Bridge → ends ≡ ends_told document
    → AllZip (IsRead (IsEventOf bridges ends) event_keys) (rows_of document Event) events
    → AllZip (IsRead (IsEventOf (names_of document Bridge) (ends_told document)) event_keys) (rows_of document Event)
    events
events_whole document bridges ends events names told all = rw (← told, ← names) all
