use Rattle.std.proofs.Common.{map, take}
use Rattle.std.specs.List.{AllZip, IsDistinct}
use Rattle.toml.specs.View.{table_view}
use Rattle.pb_frame.specs.Admission.{same}
use Rattle.pb_service.specs.declared.section.Section.TheVariants.{Bridge}
use Rattle.pb_service.specs.Formats.{bridge_keys}
use Rattle.pb_service.specs.Tables.{IsBridgeOf, IsRead}
use Rattle.pb_service.specs.Refusals.{names_of}
use Rattle.pb_service.proofs.bridge.read_bridges.Given as goal

abbrev pub invariant-loop-index : goal.invariant-loop-index
invariant-loop-index l = record {
  read : AllZip (λ r x. IsRead IsBridgeOf bridge_keys (table_view r.now) x) (take l.index l.rows) l.bridges.items;
  names : IsDistinct same (take l.index (names_of (table_view l.fn.document) Bridge));
  addresses : IsDistinct same (map (λ b. b.address.0) l.bridges.items);
}
