use Rattle.std.proofs.Common.{map, ◌∙◌, ap, arith}
use Rattle.std.proofs.lemmas.Result.{err_from_is_err_and}
use Rattle.toml.specs.View.{table_view}
use Rattle.pb_service.specs.declared.section.Section.TheVariants.{Link, Tap}
use Rattle.pb_service.specs.Formats.{tap_keys}
use Rattle.pb_service.specs.Tables.{IsRead}
use Rattle.pb_service.specs.Taps.{IsTapOf}
use Rattle.pb_service.proofs.TapLemmas.{tap_passed, taps_whole}
use Rattle.pb_service.proofs.Ends.{few_names}
use Rattle.pb_service.proofs.Refusing.{memory_passed, row_at}
use Rattle.pb_service.proofs.Zips.{zip_next, zip_all}
use Rattle.pb_service.proofs.tap.read_taps.Goals as goal

pub loop-index-init : goal.loop-index-init
loop-index-init c = record { read = rw c.new-taps.ensures.items tt }

pub loop-index-preserved : goal.loop-index-preserved
loop-index-preserved c = record {
  read = zip_next _ _ _ _ _ _ _ _ c.loop-index-test.true c.index-rows-index.is c.loop-index.invariant.read
      c.in_ok-tap.ensures.ok c.in_ok-put.ensures.ok;
}

pub read_tap-requires : goal.read_tap-requires
read_tap-requires c =
    let names = ap (map (λ n. n.now)) c.as_slice-links.ensures.value ∙ c.in_ok-link_names.ensures.ok in
    omega (arith, few_names _ Link _ c.requires.links names)

pub returns-in_err-link_names-clause-err : goal.returns-in_err-link_names-clause-err
returns-in_err-link_names-clause-err c =
    memory_passed _ _ _ (err_from_is_err_and _ c.from_residual-in_err-link_names.ensures.1)
    c.in_err-link_names.ensures.err

pub returns-in_err-put-clause-err : goal.returns-in_err-put-clause-err
returns-in_err-put-clause-err c = memory_passed _ _ _ (err_from_is_err_and _ c.from_residual-in_err-put.ensures.1)
    c.in_err-put.ensures.err

pub returns-in_err-tap-clause-err : goal.returns-in_err-tap-clause-err
returns-in_err-tap-clause-err c =
    let rows = ap (map (λ t. table_view t.now)) c.as_slice-rows.ensures.value ∙ c.in_ok-tables.ensures.ok in
    let names = ap (map (λ n. n.now)) c.as_slice-links.ensures.value ∙ c.in_ok-link_names.ensures.ok in
    let at = row_at (table_view c.args.document.now) Tap _ _ _ _ rows c.loop-index-test.true c.index-rows-index.is in
    tap_passed _ _ _ _ _ _ _ names c.requires.limits at (err_from_is_err_and _ c.from_residual-in_err-tap.ensures.1)
    c.in_err-tap.ensures.err

pub returns-clause-ok : goal.returns-clause-ok
returns-clause-ok c =
    let rows = ap (map (λ t. table_view t.now)) c.as_slice-rows.ensures.value ∙ c.in_ok-tables.ensures.ok in
    let names = ap (map (λ n. n.now)) c.as_slice-links.ensures.value ∙ c.in_ok-link_names.ensures.ok in
    taps_whole (table_view c.args.document.now) _ _ _ names c.requires.limits
    (zip_all (IsRead (IsTapOf (map (λ n. n.now) c.as_slice-links.result.now) c.args.limits) tap_keys)
    (table_view c.args.document.now) Tap c.as_slice-rows.result.now
    c.loop-index.index _ (omega arith) rows c.loop-index.invariant.read)
