use Rattle.std.proofs.Common.{◌≡◌, ◌++◌, drop, map}
use Rattle.toml.specs.View.{items_view, table_view}
use Rattle.pb_service.specs.Told.{tables_in}
use Rattle.pb_service.proofs.table.tables_in.Given as goal

abbrev pub invariant-loop-item : goal.invariant-loop-item
invariant-loop-item l = map (λ t. table_view t.now) l.tables.items
    ++ tables_in (items_view (drop l.item-index l.items)) ≡ tables_in (items_view l.items)
