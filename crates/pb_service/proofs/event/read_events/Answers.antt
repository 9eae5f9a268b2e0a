use Rattle.std.proofs.Common.{map, ◌∙◌, ap, arith}
use Rattle.std.proofs.lemmas.Result.{err_from_is_err_and}
use Rattle.toml.specs.View.{table_view}
use Rattle.pb_service.specs.declared.section.Section.TheVariants.{Bridge, Event}
use Rattle.pb_service.specs.Events.{IsEventOf}
use Rattle.pb_service.specs.Formats.{event_keys}
use Rattle.pb_service.specs.Tables.{IsRead}
use Rattle.pb_service.proofs.EventLemmas.{event_passed, events_whole}
use Rattle.pb_service.proofs.Ends.{few_names}
use Rattle.pb_service.proofs.Refusing.{memory_passed, row_at}
use Rattle.pb_service.proofs.Zips.{zip_next, zip_all}
use Rattle.pb_service.proofs.event.read_events.Goals as goal

pub loop-index-init : goal.loop-index-init
loop-index-init c = record { read = rw c.new-events.ensures.items tt }

pub loop-index-preserved : goal.loop-index-preserved
loop-index-preserved c = record {
  read = zip_next _ _ _ _ _ _ _ _ c.loop-index-test.true c.index-rows-index.is c.loop-index.invariant.read
      c.in_ok-event.ensures.ok c.in_ok-put.ensures.ok;
}

pub read_event-requires : goal.read_event-requires
read_event-requires c =
    let names = ap (map (λ n. n.now)) c.as_slice-bridges.ensures.value ∙ c.in_ok-bridge_names.ensures.ok in
    omega (arith, few_names _ Bridge _ c.requires.bridges names)

pub returns-in_err-bridge_names-clause-err : goal.returns-in_err-bridge_names-clause-err
returns-in_err-bridge_names-clause-err c =
    memory_passed _ _ _ (err_from_is_err_and _ c.from_residual-in_err-bridge_names.ensures.1)
    c.in_err-bridge_names.ensures.err

pub returns-in_err-put-clause-err : goal.returns-in_err-put-clause-err
returns-in_err-put-clause-err c = memory_passed _ _ _ (err_from_is_err_and _ c.from_residual-in_err-put.ensures.1)
    c.in_err-put.ensures.err

pub returns-in_err-event-clause-err : goal.returns-in_err-event-clause-err
returns-in_err-event-clause-err c =
    let rows = ap (map (λ t. table_view t.now)) c.as_slice-rows.ensures.value ∙ c.in_ok-tables.ensures.ok in
    let names = ap (map (λ n. n.now)) c.as_slice-bridges.ensures.value ∙ c.in_ok-bridge_names.ensures.ok in
    let at = row_at (table_view c.args.document.now) Event _ _ _ _ rows c.loop-index-test.true c.index-rows-index.is in
    event_passed _ _ _ _ _ _ _ names c.requires.ends at (err_from_is_err_and _ c.from_residual-in_err-event.ensures.1)
    c.in_err-event.ensures.err

pub returns-clause-ok : goal.returns-clause-ok
returns-clause-ok c =
    let rows = ap (map (λ t. table_view t.now)) c.as_slice-rows.ensures.value ∙ c.in_ok-tables.ensures.ok in
    let names = ap (map (λ n. n.now)) c.as_slice-bridges.ensures.value ∙ c.in_ok-bridge_names.ensures.ok in
    events_whole (table_view c.args.document.now) _ _ _ names c.requires.ends
    (zip_all (IsRead (IsEventOf (map (λ n. n.now) c.as_slice-bridges.result.now) c.args.ends.now) event_keys)
    (table_view c.args.document.now) Event c.as_slice-rows.result.now
    c.loop-index.index _ (omega arith) rows c.loop-index.invariant.read)
