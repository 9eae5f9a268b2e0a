use Rattle.std.proofs.Common.{◌≡◌, drop}
use Rattle.std.specs.Prelude.{is_some}
use Rattle.toml.specs.Data.{as_str}
use Rattle.toml.specs.View.{items_view}
use Rattle.pb_service.specs.Values.{all_items}
use Rattle.pb_service.proofs.lists.are_texts.Given as goal

abbrev pub invariant-loop-item : goal.invariant-loop-item
invariant-loop-item l = all_items (λ e. is_some (as_str e)) (items_view l.items) ≡ all_items (λ e. is_some (as_str e))
    (items_view (drop l.item-index l.items))
