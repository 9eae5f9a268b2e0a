use Rattle.std.proofs.Common.{take, map}
use Rattle.std.specs.List.{AllZip}
use Rattle.toml.specs.View.{table_view}
use Rattle.pb_service.specs.Events.{IsEventOf}
use Rattle.pb_service.specs.Formats.{event_keys}
use Rattle.pb_service.specs.Tables.{IsRead}
use Rattle.pb_service.proofs.event.read_events.Given as goal

abbrev pub invariant-loop-index : goal.invariant-loop-index
invariant-loop-index l = record {
  read : AllZip (λ r x. IsRead (IsEventOf (map (λ n. n.now) l.bridges) l.fn.ends) event_keys (table_view r.now) x)
      (take l.index l.rows) l.events.items;
}
