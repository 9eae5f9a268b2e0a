use Rattle.std.proofs.Common.{◌≡◌, ◌++◌, take, map}
use Rattle.std.specs.List.{AllZip, IsDistinct, flat_map}
use Rattle.toml.specs.View.{table_view}
use Rattle.pb_frame.specs.Admission.{same}
use Rattle.pb_service.specs.declared.section.Section.TheVariants.{Port}
use Rattle.pb_service.specs.Tables.{IsCustomerOf, IsPortSpecOf, IsReadPort}
use Rattle.pb_service.specs.UsedPorts.{AreUsedOnce}
use Rattle.pb_service.specs.Refusals.{names_of, customer_ports}
use Rattle.pb_service.proofs.port.read_customers.Given as goal

abbrev pub invariant-loop-index : goal.invariant-loop-index
invariant-loop-index l = record {
  read : AllZip (λ r x. IsReadPort (IsCustomerOf (map (λ n. n.now) l.bridges) (map (λ n. n.now) l.services))
      (table_view r.now) x) (take l.index l.rows) l.customers.items;
  specs : AllZip (λ r x. IsPortSpecOf l.limits (table_view r.now) x) (take l.index l.rows) l.specs.items;
  used : l.used.items ≡ l.fn.used.items ++ flat_map (customer_ports (map (λ n. n.now) l.bridges))
      (map (λ t. table_view t.now) (take l.index l.rows));
  names : IsDistinct same (take l.index (names_of (table_view l.fn.document) Port));
  once : AreUsedOnce l.used.items;
}
