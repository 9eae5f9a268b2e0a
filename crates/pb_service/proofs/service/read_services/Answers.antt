use Rattle.std.proofs.Common.{◌≡◌, map, ◌∙◌, sym, ap, arith}
use Rattle.std.proofs.lemmas.Result.{err_from_is_err_and}
use Rattle.toml.specs.View.{table_view}
use Rattle.pb_service.specs.declared.section.Section.TheVariants.{Service}
use Rattle.pb_service.specs.Formats.{service_keys}
use Rattle.std.specs.Prelude.{codes, nat_eq, ◌==◌}
use Rattle.std.specs.List.{list_any}
use Rattle.pb_frame.specs.Admission.{same}
use Rattle.std.proofs.lemmas.Bool.{eqb-true}
use Rattle.pb_service.specs.Refusals.{same_vid}
use Rattle.pb_service.specs.Tables.{number_at, IsServiceOf, IsRead}
use Rattle.pb_service.proofs.Zips.{zip_next, zip_all, earlier}
use Rattle.pb_service.proofs.Refusing.{either, memory_passed, table_passed, row_at}
use Rattle.pb_service.proofs.Distinctness.{distinct_none, distinct_empty, distinct_next, name_next, names_all}
use Rattle.pb_service.proofs.service.read_services.Goals as goal

pub loop-index-init : goal.loop-index-init
loop-index-init c = record {
  read = rw c.new-services.ensures.items tt;
  names = distinct_none same;
  vids = distinct_empty nat_eq (λ s. s.vid) c.new-services.result.items c.new-services.ensures.items;
}

pub loop-index-preserved : goal.loop-index-preserved
loop-index-preserved c =
    let rows = ap (map (λ t. table_view t.now)) c.as_slice-rows.ensures.value ∙ c.in_ok-rows.ensures.ok in
    let names = ap (map (λ n. n.now)) c.as_slice-names.ensures.value ∙ c.in_ok-rows.ensures.names in
    let at = row_at (table_view c.args.document.now) Service _ _ _ _ rows c.loop-index-test.true c.index-rows-index.is
    in
    let other = sym (ap (list_any (λ s. s.vid == c.in_ok-service.service.vid)) c.as_slice-earlier.ensures.value)
    ∙ sym c.has_vid.ensures ∙ c.if-has_vid.false in
    record {
      read = zip_next _ _ _ _ _ _ _ _ c.loop-index-test.true c.index-rows-index.is c.loop-index.invariant.read
          c.in_ok-service.ensures.ok c.in_ok-put.ensures.ok;
      names = name_next (table_view c.args.document.now) Service _ _ _ names at c.in_ok-service.ensures.new
          c.loop-index.invariant.names;
      vids = distinct_next nat_eq (λ s. s.vid) c.loop-index.services.items _ c.in_ok-service.service
          c.loop-index.invariant.vids other c.in_ok-put.ensures.ok;
    }

pub returns-in_err-service-clause-err : goal.returns-in_err-service-clause-err
returns-in_err-service-clause-err c =
    let rows = ap (map (λ t. table_view t.now)) c.as_slice-rows.ensures.value ∙ c.in_ok-rows.ensures.ok in
    let names = ap (map (λ n. n.now)) c.as_slice-names.ensures.value ∙ c.in_ok-rows.ensures.names in
    let at = row_at (table_view c.args.document.now) Service _ _ _ _ rows c.loop-index-test.true c.index-rows-index.is
    in
    table_passed _ Service _ _ _ _ _ names at (err_from_is_err_and _ c.from_residual-in_err-service.ensures.1)
    c.in_err-service.ensures.err

pub returns-in_err-put-clause-err : goal.returns-in_err-put-clause-err
returns-in_err-put-clause-err c = memory_passed _ _ _ (err_from_is_err_and _ c.from_residual-in_err-put.ensures.1)
    c.in_err-put.ensures.err

pub returns-clause-ok : goal.returns-clause-ok
returns-clause-ok c =
    let rows = ap (map (λ t. table_view t.now)) c.as_slice-rows.ensures.value ∙ c.in_ok-rows.ensures.ok in
    zip_all (IsRead IsServiceOf service_keys) (table_view c.args.document.now) Service c.as_slice-rows.result.now
    c.loop-index.index _ (omega arith) rows c.loop-index.invariant.read

pub returns-clause-names : goal.returns-clause-names
returns-clause-names c =
    let rows = ap (map (λ t. table_view t.now)) c.as_slice-rows.ensures.value ∙ c.in_ok-rows.ensures.ok in
    names_all (table_view c.args.document.now) Service c.as_slice-rows.result.now c.loop-index.index (omega arith) rows
    c.loop-index.invariant.names

pub returns-then-has_vid-clause-err : goal.returns-then-has_vid-clause-err
returns-then-has_vid-clause-err c =
    let rows = ap (map (λ t. table_view t.now)) c.as_slice-rows.ensures.value ∙ c.in_ok-rows.ensures.ok in
    let at = row_at (table_view c.args.document.now) Service _ _ _ _ rows c.loop-index-test.true c.index-rows-index.is
    in
    let here = sym (ap (list_any (λ s. s.vid == c.in_ok-service.service.vid)) c.as_slice-earlier.ensures.value)
    ∙ sym c.has_vid.ensures ∙ c.if-has_vid.true in
    either _ _ _ c.twice.ensures
    (same_vid _ c.loop-index.index _ _ at (sym c.in_ok-service.ensures.ok.told.vid)
    (earlier (IsRead IsServiceOf service_keys)
    (λ row. number_at row (codes "vid") 0 4094 ≡ c.in_ok-service.service.vid)
    (λ s. s.vid == c.in_ok-service.service.vid)
    (table_view c.args.document.now) Service c.as_slice-rows.result.now c.loop-index.index c.loop-index.services.items
    rows
    (λ row s told e. sym told.told.vid ∙ eqb-true s.vid c.in_ok-service.service.vid e) c.loop-index.invariant.read
    here))
