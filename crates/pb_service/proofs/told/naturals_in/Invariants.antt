use Rattle.std.proofs.Common.{◌≡◌, ◌++◌, drop}
use Rattle.toml.specs.View.{items_view}
use Rattle.pb_service.specs.Told.{naturals_in}
use Rattle.pb_service.proofs.told.naturals_in.Given as goal

abbrev pub invariant-loop-item : goal.invariant-loop-item
invariant-loop-item l = l.numbers.items ++ naturals_in (items_view (drop l.item-index l.items)) ≡ naturals_in
    (items_view l.items)
