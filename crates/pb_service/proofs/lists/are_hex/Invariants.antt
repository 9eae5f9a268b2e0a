use Rattle.std.proofs.Common.{◌≡◌, drop}
use Rattle.toml.specs.View.{items_view}
use Rattle.pb_service.specs.Values.{all_items, is_text, is_hex}
use Rattle.pb_service.proofs.lists.are_hex.Given as goal

abbrev pub invariant-loop-item : goal.invariant-loop-item
invariant-loop-item l = all_items (is_text is_hex) (items_view l.items) ≡ all_items (is_text is_hex)
    (items_view (drop l.item-index l.items))
