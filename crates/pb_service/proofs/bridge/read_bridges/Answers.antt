use Rattle.std.proofs.Common.{map, ◌∙◌, sym, ap, arith}
use Rattle.std.proofs.lemmas.Result.{err_from_is_err_and}
use Rattle.toml.specs.View.{table_view}
use Rattle.pb_service.specs.declared.section.Section.TheVariants.{Bridge}
use Rattle.pb_service.specs.Formats.{bridge_keys}
use Rattle.std.specs.Prelude.{codes}
use Rattle.std.specs.List.{list_any}
use Rattle.pb_frame.specs.Admission.{same}
use Rattle.pb_frame.specs.Hex.{IsMacText}
use Rattle.pb_frame.proofs.Lists.{same-one}
use Rattle.pb_service.specs.Refusals.{same_address}
use Rattle.pb_service.specs.Tables.{text_at, IsBridgeOf, IsRead}
use Rattle.pb_service.proofs.Zips.{zip_next, zip_all, earlier}
use Rattle.pb_service.proofs.Refusing.{either, memory_passed, table_passed, row_at}
use Rattle.pb_service.proofs.Distinctness.{distinct_none, distinct_empty, distinct_next, name_next, names_all}
use Rattle.pb_service.proofs.bridge.read_bridges.Goals as goal

pub loop-index-init : goal.loop-index-init
loop-index-init c = record {
  read = rw c.new-bridges.ensures.items tt;
  names = distinct_none same;
  addresses = distinct_empty same (λ b. b.address.0) c.new-bridges.result.items c.new-bridges.ensures.items;
}

pub loop-index-preserved : goal.loop-index-preserved
loop-index-preserved c =
    let rows = ap (map (λ t. table_view t.now)) c.as_slice-rows.ensures.value ∙ c.in_ok-rows.ensures.ok in
    let names = ap (map (λ n. n.now)) c.as_slice-names.ensures.value ∙ c.in_ok-rows.ensures.names in
    let at = row_at (table_view c.args.document.now) Bridge _ _ _ _ rows c.loop-index-test.true c.index-rows-index.is in
    let other = sym (ap (list_any (λ b. same b.address.0 c.in_ok-bridge.bridge.address.0))
    c.as_slice-earlier.ensures.value) ∙ sym c.has_address.ensures ∙ c.if-has_address.false in
    record {
      read = zip_next _ _ _ _ _ _ _ _ c.loop-index-test.true c.index-rows-index.is c.loop-index.invariant.read
          c.in_ok-bridge.ensures.ok c.in_ok-put.ensures.ok;
      names = name_next (table_view c.args.document.now) Bridge _ _ _ names at c.in_ok-bridge.ensures.new
          c.loop-index.invariant.names;
      addresses = distinct_next same (λ b. b.address.0) c.loop-index.bridges.items _ c.in_ok-bridge.bridge
          c.loop-index.invariant.addresses other c.in_ok-put.ensures.ok;
    }

pub returns-in_err-bridge-clause-err : goal.returns-in_err-bridge-clause-err
returns-in_err-bridge-clause-err c =
    let rows = ap (map (λ t. table_view t.now)) c.as_slice-rows.ensures.value ∙ c.in_ok-rows.ensures.ok in
    let names = ap (map (λ n. n.now)) c.as_slice-names.ensures.value ∙ c.in_ok-rows.ensures.names in
    let at = row_at (table_view c.args.document.now) Bridge _ _ _ _ rows c.loop-index-test.true c.index-rows-index.is in
    table_passed _ Bridge _ _ _ _ _ names at (err_from_is_err_and _ c.from_residual-in_err-bridge.ensures.1)
    c.in_err-bridge.ensures.err

pub returns-in_err-put-clause-err : goal.returns-in_err-put-clause-err
returns-in_err-put-clause-err c = memory_passed _ _ _ (err_from_is_err_and _ c.from_residual-in_err-put.ensures.1)
    c.in_err-put.ensures.err

pub returns-clause-ok : goal.returns-clause-ok
returns-clause-ok c =
    let rows = ap (map (λ t. table_view t.now)) c.as_slice-rows.ensures.value ∙ c.in_ok-rows.ensures.ok in
    zip_all (IsRead IsBridgeOf bridge_keys) (table_view c.args.document.now) Bridge c.as_slice-rows.result.now
    c.loop-index.index _ (omega arith) rows c.loop-index.invariant.read

pub returns-clause-names : goal.returns-clause-names
returns-clause-names c =
    let rows = ap (map (λ t. table_view t.now)) c.as_slice-rows.ensures.value ∙ c.in_ok-rows.ensures.ok in
    names_all (table_view c.args.document.now) Bridge c.as_slice-rows.result.now c.loop-index.index (omega arith) rows
    c.loop-index.invariant.names

pub returns-then-has_address-clause-err : goal.returns-then-has_address-clause-err
returns-then-has_address-clause-err c =
    let rows = ap (map (λ t. table_view t.now)) c.as_slice-rows.ensures.value ∙ c.in_ok-rows.ensures.ok in
    let at = row_at (table_view c.args.document.now) Bridge _ _ _ _ rows c.loop-index-test.true c.index-rows-index.is in
    let here = sym (ap (list_any (λ b. same b.address.0 c.in_ok-bridge.bridge.address.0))
    c.as_slice-earlier.ensures.value) ∙ sym c.has_address.ensures ∙ c.if-has_address.true in
    either _ _ _ c.twice.ensures
    (same_address _ c.loop-index.index _ _ at c.in_ok-bridge.ensures.ok.told.address
    (earlier (IsRead IsBridgeOf bridge_keys)
    (λ row. IsMacText (text_at row (codes "address")) c.in_ok-bridge.bridge.address.0)
    (λ b. same b.address.0 c.in_ok-bridge.bridge.address.0)
    (table_view c.args.document.now) Bridge c.as_slice-rows.result.now c.loop-index.index c.loop-index.bridges.items
    rows
    (λ row b told s. rw (← same-one b.address.0 c.in_ok-bridge.bridge.address.0 s) told.told.address)
    c.loop-index.invariant.read here))
