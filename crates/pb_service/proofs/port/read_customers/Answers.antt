use Rattle.std.proofs.Common.{◌++◌, map, ◌∙◌, sym, ap, arith}
use Rattle.std.proofs.lemmas.Result.{err_from_is_err_and}
use Rattle.std.proofs.lemmas.List.{append-nil}
use Rattle.std.specs.List.{flat_map}
use Rattle.pb_frame.specs.Admission.{same}
use Rattle.toml.specs.View.{table_view}
use Rattle.pb_service.specs.declared.section.Section.TheVariants.{Bridge, Service, Port}
use Rattle.pb_service.specs.Tables.{IsCustomerOf, IsPortSpecOf, IsReadPort}
use Rattle.pb_service.specs.Refusals.{customer_ports}
use Rattle.pb_service.proofs.Zips.{zip_next, zip_all}
use Rattle.pb_service.proofs.Refusing.{memory_passed, table_passed, row_at}
use Rattle.pb_service.proofs.Distinctness.{distinct_none, name_next, names_all, used_next, ports_all}
use Rattle.pb_service.proofs.Ends.{few_names, flat_next, first_rows, port_of_customer, customer_passed, port_passed}
use Rattle.pb_service.proofs.Ends.{port_spec_passed, customers_whole, specs_whole}
use Rattle.pb_service.proofs.port.read_customers.Goals as goal

pub returns-in_err-bridge_names-clause-err : goal.returns-in_err-bridge_names-clause-err
returns-in_err-bridge_names-clause-err c =
    memory_passed _ _ _ (err_from_is_err_and _ c.from_residual-in_err-bridge_names.ensures.1)
    c.in_err-bridge_names.ensures.err

pub returns-in_err-service_names-clause-err : goal.returns-in_err-service_names-clause-err
returns-in_err-service_names-clause-err c =
    memory_passed _ _ _ (err_from_is_err_and _ c.from_residual-in_err-service_names.ensures.1)
    c.in_err-service_names.ensures.err

pub returns-in_err-put-clause-err : goal.returns-in_err-put-clause-err
returns-in_err-put-clause-err c = memory_passed _ _ _ (err_from_is_err_and _ c.from_residual-in_err-put.ensures.1)
    c.in_err-put.ensures.err

pub returns-in_err-put-2-clause-err : goal.returns-in_err-put-2-clause-err
returns-in_err-put-2-clause-err c = memory_passed _ _ _ (err_from_is_err_and _ c.from_residual-in_err-put-2.ensures.1)
    c.in_err-put-2.ensures.err

pub returns-in_err-spec-clause-err : goal.returns-in_err-spec-clause-err
returns-in_err-spec-clause-err c =
    let rows = ap (map (λ t. table_view t.now)) c.as_slice-rows.ensures.value ∙ c.in_ok-rows.ensures.ok in
    let at = row_at (table_view c.args.document.now) Port _ _ _ _ rows c.loop-index-test.true c.index-rows-index.is in
    port_spec_passed (table_view c.args.document.now) _ c.args.limits c.loop-index.index _ _ c.requires.document.0 at
    (err_from_is_err_and _ c.from_residual-in_err-spec.ensures.1) c.in_err-spec.ensures.err

pub returns-in_err-check_row-clause-err : goal.returns-in_err-check_row-clause-err
returns-in_err-check_row-clause-err c =
    let rows = ap (map (λ t. table_view t.now)) c.as_slice-rows.ensures.value ∙ c.in_ok-rows.ensures.ok in
    let names = ap (map (λ n. n.now)) c.as_slice-names.ensures.value ∙ c.in_ok-rows.ensures.names in
    let at = row_at (table_view c.args.document.now) Port _ _ _ _ rows c.loop-index-test.true c.index-rows-index.is in
    table_passed _ Port _ _ _ _ _ names at (err_from_is_err_and _ c.from_residual-in_err-check_row.ensures.1)
    c.in_err-check_row.ensures.err

pub customer_of-requires-clause-bridges : goal.customer_of-requires-clause-bridges
customer_of-requires-clause-bridges c =
    let names = ap (map (λ n. n.now)) c.as_slice-bridges.ensures.value ∙ c.in_ok-bridge_names.ensures.ok in
    omega (arith, few_names _ Bridge _ c.requires.document.1 names)

pub customer_of-requires-clause-services : goal.customer_of-requires-clause-services
customer_of-requires-clause-services c =
    let names = ap (map (λ n. n.now)) c.as_slice-services.ensures.value ∙ c.in_ok-service_names.ensures.ok in
    omega (
      arith,
      few_names (table_view c.args.document.now) Service c.as_slice-services.result.now
          c.requires.document.2 names,
    )

pub returns-in_err-customer-clause-err : goal.returns-in_err-customer-clause-err
returns-in_err-customer-clause-err c =
    let rows = ap (map (λ t. table_view t.now)) c.as_slice-rows.ensures.value ∙ c.in_ok-rows.ensures.ok in
    let bridges = ap (map (λ n. n.now)) c.as_slice-bridges.ensures.value ∙ c.in_ok-bridge_names.ensures.ok in
    let services = ap (map (λ n. n.now)) c.as_slice-services.ensures.value ∙ c.in_ok-service_names.ensures.ok in
    let at = row_at (table_view c.args.document.now) Port _ _ _ _ rows c.loop-index-test.true c.index-rows-index.is in
    customer_passed (table_view c.args.document.now) _ _ _ c.loop-index.index _ _ bridges services at
    (err_from_is_err_and _ c.from_residual-in_err-customer.ensures.1) c.in_err-customer.ensures.err

pub returns-in_err-use_port-clause-err : goal.returns-in_err-use_port-clause-err
returns-in_err-use_port-clause-err c =
    let rows = ap (map (λ t. table_view t.now)) c.as_slice-rows.ensures.value ∙ c.in_ok-rows.ensures.ok in
    let bridges = ap (map (λ n. n.now)) c.as_slice-bridges.ensures.value ∙ c.in_ok-bridge_names.ensures.ok in
    let at = row_at (table_view c.args.document.now) Port _ _ _ _ rows c.loop-index-test.true c.index-rows-index.is in
    let before = c.loop-index.invariant.used
    ∙ ap (λ z. c.args.used.items ++ flat_map (customer_ports (map (λ n. n.now) c.as_slice-bridges.result.now)) z)
    (first_rows (table_view c.args.document.now) Port c.as_slice-rows.result.now c.loop-index.index rows) in
    port_passed (table_view c.args.document.now) _ _ _ c.loop-index.index c.in_ok-customer.customer c.args.used.items
    c.loop-index.used.items _ _ bridges at c.in_ok-customer.ensures.ok c.requires.used.0 before
    (err_from_is_err_and _ c.from_residual-in_err-use_port.ensures.1) c.in_err-use_port.ensures.err

pub loop-index-init : goal.loop-index-init
loop-index-init c = record {
  read = rw c.new-customers.ensures.items tt;
  specs = rw c.new-specs.ensures.items tt;
  used = sym (append-nil c.args.used.items);
  names = distinct_none same;
  once = c.requires.used.1;
}

pub loop-index-preserved : goal.loop-index-preserved
loop-index-preserved c =
    let rows = ap (map (λ t. table_view t.now)) c.as_slice-rows.ensures.value ∙ c.in_ok-rows.ensures.ok in
    let names = ap (map (λ n. n.now)) c.as_slice-names.ensures.value ∙ c.in_ok-rows.ensures.names in
    let at = row_at (table_view c.args.document.now) Port _ _ _ _ rows c.loop-index-test.true c.index-rows-index.is in
    record {
      read = zip_next _ _ _ _ _ _ _ _ c.loop-index-test.true c.index-rows-index.is c.loop-index.invariant.read
          (record { accepted = c.in_ok-check_row.ensures.ok; told = c.in_ok-customer.ensures.ok })
          c.in_ok-put.ensures.ok;
      specs = zip_next _ _ _ _ _ _ _ _ c.loop-index-test.true c.index-rows-index.is c.loop-index.invariant.specs
          c.in_ok-spec.ensures.ok c.in_ok-put-2.ensures.ok;
      used = flat_next (customer_ports (map (λ n. n.now) c.as_slice-bridges.result.now)) _ _ _ _ c.args.used.items
          c.loop-index.used.items _ _ c.loop-index-test.true c.index-rows-index.is c.loop-index.invariant.used
          (port_of_customer _ _ _ c.in_ok-customer.customer c.in_ok-customer.ensures.ok) c.in_ok-use_port.ensures.ok;
      names = name_next (table_view c.args.document.now) Port _ _ _ names at c.in_ok-check_row.ensures.new
          c.loop-index.invariant.names;
      once = used_next c.loop-index.used.items _
          (record { bridge = c.in_ok-customer.customer.bridge; port = c.in_ok-customer.customer.port })
          c.loop-index.invariant.once c.in_ok-use_port.ensures.free c.in_ok-use_port.ensures.ok;
    }

pub returns-clause-ok : goal.returns-clause-ok
returns-clause-ok c =
    let rows = ap (map (λ t. table_view t.now)) c.as_slice-rows.ensures.value ∙ c.in_ok-rows.ensures.ok in
    let bridges = ap (map (λ n. n.now)) c.as_slice-bridges.ensures.value ∙ c.in_ok-bridge_names.ensures.ok in
    let services = ap (map (λ n. n.now)) c.as_slice-services.ensures.value ∙ c.in_ok-service_names.ensures.ok in
    customers_whole (table_view c.args.document.now) _ _ c.loop-index.customers.items bridges services
    (zip_all (IsReadPort (IsCustomerOf (map (λ n. n.now) c.as_slice-bridges.result.now)
    (map (λ n. n.now) c.as_slice-services.result.now)))
    (table_view c.args.document.now) Port c.as_slice-rows.result.now c.loop-index.index _ (omega arith) rows
    c.loop-index.invariant.read)

pub returns-clause-specs : goal.returns-clause-specs
returns-clause-specs c =
    let rows = ap (map (λ t. table_view t.now)) c.as_slice-rows.ensures.value ∙ c.in_ok-rows.ensures.ok in
    specs_whole (table_view c.args.document.now) c.args.limits _ c.requires.document.0
    (zip_all (IsPortSpecOf c.args.limits) (table_view c.args.document.now) Port c.as_slice-rows.result.now
    c.loop-index.index _ (omega arith) rows c.loop-index.invariant.specs)

pub returns-clause-names : goal.returns-clause-names
returns-clause-names c =
    let rows = ap (map (λ t. table_view t.now)) c.as_slice-rows.ensures.value ∙ c.in_ok-rows.ensures.ok in
    names_all (table_view c.args.document.now) Port c.as_slice-rows.result.now c.loop-index.index (omega arith) rows
    c.loop-index.invariant.names

pub returns-clause-once : goal.returns-clause-once
returns-clause-once c =
    let rows = ap (map (λ t. table_view t.now)) c.as_slice-rows.ensures.value ∙ c.in_ok-rows.ensures.ok in
    let bridges = ap (map (λ n. n.now)) c.as_slice-bridges.ensures.value ∙ c.in_ok-bridge_names.ensures.ok in
    ports_all (table_view c.args.document.now) c.as_slice-rows.result.now c.loop-index.index _ c.args.used.items
    c.loop-index.used.items (omega arith) rows bridges c.requires.used.0 c.loop-index.invariant.used
    c.loop-index.invariant.once
