use Rattle.std.proofs.Common.{◌≡◌, drop}
use Rattle.toml.specs.View.{items_view}
use Rattle.pb_frame.specs.Admission.{same}
use Rattle.pb_service.specs.Values.{any_item, is_text}
use Rattle.pb_service.proofs.lists.has_text.Given as goal

abbrev pub invariant-loop-item : goal.invariant-loop-item
invariant-loop-item l = any_item (is_text (same l.text)) (items_view l.items) ≡ any_item (is_text (same l.text))
    (items_view (drop l.item-index l.items))
