use Rattle.std.proofs.Common.{◌≡◌, drop}
use Rattle.toml.specs.View.{items_view}
use Rattle.pb_service.specs.Tables.{is_one_of}
use Rattle.pb_service.specs.Told.{names_in, tables_in}
use Rattle.pb_plan_errors.proofs.names.is_named.Given as goal

-- no earlier item has the name
abbrev pub invariant-loop-item : goal.invariant-loop-item
invariant-loop-item l =
    is_one_of (names_in (tables_in (items_view (drop l.item-index l.items)))) l.name
    ≡ is_one_of (names_in (tables_in (items_view l.items))) l.name
