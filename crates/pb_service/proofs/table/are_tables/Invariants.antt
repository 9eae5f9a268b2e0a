use Rattle.std.proofs.Common.{◌≡◌, drop}
use Rattle.std.specs.Prelude.{is_some}
use Rattle.toml.specs.Data.{as_table}
use Rattle.toml.specs.View.{items_view}
use Rattle.pb_service.specs.Values.{all_items}
use Rattle.pb_service.proofs.table.are_tables.Given as goal

abbrev pub invariant-loop-item : goal.invariant-loop-item
invariant-loop-item l = all_items (λ d. is_some (as_table d)) (items_view l.items) ≡ all_items
    (λ d. is_some (as_table d)) (items_view (drop l.item-index l.items))
