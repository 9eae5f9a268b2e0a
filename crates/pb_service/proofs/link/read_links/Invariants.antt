use Rattle.std.proofs.Common.{◌≡◌, take, map}
use Rattle.std.specs.List.{AllZip, IsDistinct, flat_map}
use Rattle.toml.specs.View.{table_view}
use Rattle.pb_frame.specs.Admission.{same}
use Rattle.pb_service.specs.declared.section.Section.TheVariants.{Link}
use Rattle.pb_service.specs.Formats.{link_keys}
use Rattle.pb_service.specs.Tables.{IsLinkOf, IsRead}
use Rattle.pb_service.specs.UsedPorts.{AreUsedOnce}
use Rattle.pb_service.specs.Refusals.{names_of, link_ports}
use Rattle.pb_service.proofs.link.read_links.Given as goal

abbrev pub invariant-loop-index : goal.invariant-loop-index
invariant-loop-index l = record {
  read : AllZip (λ r x. IsRead (IsLinkOf (map (λ n. n.now) l.bridges) (map (λ n. n.now) l.services)) link_keys
      (table_view r.now) x) (take l.index l.rows) l.links.items;
  used : l.used.items ≡ flat_map (link_ports (map (λ n. n.now) l.bridges))
      (map (λ t. table_view t.now) (take l.index l.rows));
  names : IsDistinct same (take l.index (names_of (table_view l.fn.document) Link));
  once : AreUsedOnce l.used.items;
}
