use Rattle.std.proofs.Common.{map, take}
use Rattle.std.specs.Prelude.{nat_eq}
use Rattle.std.specs.List.{AllZip, IsDistinct}
use Rattle.toml.specs.View.{table_view}
use Rattle.pb_frame.specs.Admission.{same}
use Rattle.pb_service.specs.declared.section.Section.TheVariants.{Service}
use Rattle.pb_service.specs.Formats.{service_keys}
use Rattle.pb_service.specs.Tables.{IsServiceOf, IsRead}
use Rattle.pb_service.specs.Refusals.{names_of}
use Rattle.pb_service.proofs.service.read_services.Given as goal

abbrev pub invariant-loop-index : goal.invariant-loop-index
invariant-loop-index l = record {
  read : AllZip (λ r x. IsRead IsServiceOf service_keys (table_view r.now) x) (take l.index l.rows) l.services.items;
  names : IsDistinct same (take l.index (names_of (table_view l.fn.document) Service));
  vids : IsDistinct nat_eq (map (λ s. s.vid) l.services.items);
}
