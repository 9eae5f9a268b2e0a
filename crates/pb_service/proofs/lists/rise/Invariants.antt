use Rattle.std.proofs.Common.{◌≡◌, drop}
use Rattle.toml.specs.View.{items_view}
use Rattle.pb_service.specs.Values.{rise_from}
use Rattle.pb_service.proofs.lists.rise.Given as goal

abbrev pub invariant-loop-item : goal.invariant-loop-item
invariant-loop-item l = rise_from 0 (items_view l.items) ≡ rise_from l.least (items_view (drop l.item-index l.items))
