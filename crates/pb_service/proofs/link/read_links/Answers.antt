use Rattle.std.proofs.Common.{ℕ, List, [], map, ◌∙◌, ap, arith}
use Rattle.std.proofs.lemmas.Result.{err_from_is_err_and}
use Rattle.std.specs.List.{flat_map}
use Rattle.pb_frame.specs.Admission.{same}
use Rattle.toml.specs.View.{table_view}
use Rattle.pb_service.specs.Told.{rows_of}
use Rattle.pb_service.proofs.Zips.{zip_next, zip_all}
use Rattle.pb_service.proofs.Refusing.{memory_passed, table_passed, row_at}
use Rattle.pb_service.proofs.Distinctness.{distinct_none, name_next, names_all, used_none}
use Rattle.pb_service.specs.declared.section.Section.TheVariants.{Bridge, Link}
use Rattle.pb_service.specs.Formats.{link_keys}
use Rattle.pb_service.specs.Tables.{IsLinkOf, IsRead}
use Rattle.pb_service.specs.Refusals.{link_ports}
use Rattle.pb_service.proofs.Ends.{few_names, flat_next, flat_all, first_rows, ends_of_link, link_passed, ends_passed}
use Rattle.pb_service.proofs.Ends.{links_whole}
use Rattle.pb_service.proofs.link.read_links.Goals as goal

pub returns-in_err-bridge_names-clause-err : goal.returns-in_err-bridge_names-clause-err
returns-in_err-bridge_names-clause-err c =
    memory_passed _ _ _ (err_from_is_err_and _ c.from_residual-in_err-bridge_names.ensures.1)
    c.in_err-bridge_names.ensures.err

pub returns-in_err-service_names-clause-err : goal.returns-in_err-service_names-clause-err
returns-in_err-service_names-clause-err c =
    memory_passed _ _ _ (err_from_is_err_and _ c.from_residual-in_err-service_names.ensures.1)
    c.in_err-service_names.ensures.err

pub returns-in_err-put-clause-err : goal.returns-in_err-put-clause-err
returns-in_err-put-clause-err c = memory_passed _ _ _ (err_from_is_err_and _ c.from_residual-in_err-put.ensures.1)
    c.in_err-put.ensures.err

pub returns-in_err-check_row-clause-err : goal.returns-in_err-check_row-clause-err
returns-in_err-check_row-clause-err c =
    let rows = ap (map (λ t. table_view t.now)) c.as_slice-rows.ensures.value ∙ c.in_ok-rows.ensures.ok in
    let names = ap (map (λ n. n.now)) c.as_slice-names.ensures.value ∙ c.in_ok-rows.ensures.names in
    let at = row_at (table_view c.args.document.now) Link _ _ _ _ rows c.loop-index-test.true c.index-rows-index.is in
    table_passed _ Link _ _ _ _ _ names at (err_from_is_err_and _ c.from_residual-in_err-check_row.ensures.1)
    c.in_err-check_row.ensures.err

pub link_of-requires : goal.link_of-requires
link_of-requires c =
    let names = ap (map (λ n. n.now)) c.as_slice-bridges.ensures.value ∙ c.in_ok-bridge_names.ensures.ok in
    omega (arith, few_names _ Bridge _ c.requires names)

pub returns-in_err-link-clause-err : goal.returns-in_err-link-clause-err
returns-in_err-link-clause-err c =
    let rows = ap (map (λ t. table_view t.now)) c.as_slice-rows.ensures.value ∙ c.in_ok-rows.ensures.ok in
    let bridges = ap (map (λ n. n.now)) c.as_slice-bridges.ensures.value ∙ c.in_ok-bridge_names.ensures.ok in
    let services = ap (map (λ n. n.now)) c.as_slice-services.ensures.value ∙ c.in_ok-service_names.ensures.ok in
    let at = row_at (table_view c.args.document.now) Link _ _ _ _ rows c.loop-index-test.true c.index-rows-index.is in
    link_passed (table_view c.args.document.now) _ _ _ c.loop-index.index _ _ bridges services at
    (err_from_is_err_and _ c.from_residual-in_err-link.ensures.1) c.in_err-link.ensures.err

pub returns-in_err-use_ends-clause-err : goal.returns-in_err-use_ends-clause-err
returns-in_err-use_ends-clause-err c =
    let rows = ap (map (λ t. table_view t.now)) c.as_slice-rows.ensures.value ∙ c.in_ok-rows.ensures.ok in
    let bridges = ap (map (λ n. n.now)) c.as_slice-bridges.ensures.value ∙ c.in_ok-bridge_names.ensures.ok in
    let at = row_at (table_view c.args.document.now) Link _ _ _ _ rows c.loop-index-test.true c.index-rows-index.is in
    let before = c.loop-index.invariant.used
    ∙ ap (λ z. flat_map (link_ports (map (λ n. n.now) c.as_slice-bridges.result.now)) z)
    (first_rows (table_view c.args.document.now) Link c.as_slice-rows.result.now c.loop-index.index rows) in
    ends_passed (table_view c.args.document.now) _ _ _ c.loop-index.index c.in_ok-link.link c.loop-index.used.items _
    _ bridges at c.in_ok-link.ensures.ok before
    (err_from_is_err_and _ c.from_residual-in_err-use_ends.ensures.1) c.in_err-use_ends.ensures.err

pub loop-index-init : goal.loop-index-init
loop-index-init c = record {
  read = rw c.new-links.ensures.items tt;
  used = c.new-used.ensures.items;
  names = distinct_none same;
  once = used_none c.new-used.result.items c.new-used.ensures.items;
}

pub loop-index-preserved : goal.loop-index-preserved
loop-index-preserved c =
    let rows = ap (map (λ t. table_view t.now)) c.as_slice-rows.ensures.value ∙ c.in_ok-rows.ensures.ok in
    let names = ap (map (λ n. n.now)) c.as_slice-names.ensures.value ∙ c.in_ok-rows.ensures.names in
    let at = row_at (table_view c.args.document.now) Link _ _ _ _ rows c.loop-index-test.true c.index-rows-index.is in
    record {
      read = zip_next _ _ _ _ _ _ _ _ c.loop-index-test.true c.index-rows-index.is c.loop-index.invariant.read
          (record { accepted = c.in_ok-check_row.ensures.ok; told = c.in_ok-link.ensures.ok }) c.in_ok-put.ensures.ok;
      used = flat_next (link_ports (map (λ n. n.now) c.as_slice-bridges.result.now)) _ _ _ _ [] c.loop-index.used.items
          _ _ c.loop-index-test.true c.index-rows-index.is c.loop-index.invariant.used
          (ends_of_link _ _ _ c.in_ok-link.link c.in_ok-link.ensures.ok) c.in_ok-use_ends.ensures.ok;
      names = name_next (table_view c.args.document.now) Link _ _ _ names at c.in_ok-check_row.ensures.new
          c.loop-index.invariant.names;
      once = c.in_ok-use_ends.ensures.once c.loop-index.invariant.once;
    }

pub returns-clause-ok : goal.returns-clause-ok
returns-clause-ok c =
    let rows = ap (map (λ t. table_view t.now)) c.as_slice-rows.ensures.value ∙ c.in_ok-rows.ensures.ok in
    let bridges = ap (map (λ n. n.now)) c.as_slice-bridges.ensures.value ∙ c.in_ok-bridge_names.ensures.ok in
    let services = ap (map (λ n. n.now)) c.as_slice-services.ensures.value ∙ c.in_ok-service_names.ensures.ok in
    links_whole (table_view c.args.document.now) _ _ c.loop-index.links.items bridges services
    (zip_all (IsRead (IsLinkOf (map (λ n. n.now) c.as_slice-bridges.result.now)
    (map (λ n. n.now) c.as_slice-services.result.now)) link_keys)
    (table_view c.args.document.now) Link c.as_slice-rows.result.now
    c.loop-index.index _ (omega arith) rows c.loop-index.invariant.read)

pub returns-clause-used : goal.returns-clause-used
returns-clause-used c =
    let rows = ap (map (λ t. table_view t.now)) c.as_slice-rows.ensures.value ∙ c.in_ok-rows.ensures.ok in
    let bridges = ap (map (λ n. n.now)) c.as_slice-bridges.ensures.value ∙ c.in_ok-bridge_names.ensures.ok in
    flat_all (link_ports (map (λ n. n.now) c.as_slice-bridges.result.now)) (table_view c.args.document.now) Link
    c.as_slice-rows.result.now c.loop-index.index _ (omega arith) rows c.loop-index.invariant.used
    ∙ ap (λ (b : List (List ℕ)). flat_map (link_ports b) (rows_of (table_view c.args.document.now) Link)) bridges

pub returns-clause-names : goal.returns-clause-names
returns-clause-names c =
    let rows = ap (map (λ t. table_view t.now)) c.as_slice-rows.ensures.value ∙ c.in_ok-rows.ensures.ok in
    names_all (table_view c.args.document.now) Link c.as_slice-rows.result.now c.loop-index.index (omega arith) rows
    c.loop-index.invariant.names
