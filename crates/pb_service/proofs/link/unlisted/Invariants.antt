use Rattle.std.proofs.Common.{◌≡◌, drop, map}
use Rattle.toml.specs.View.{items_view}
use Rattle.pb_service.specs.Tables.{are_known}
use Rattle.pb_service.proofs.link.unlisted.Given as goal

abbrev pub invariant-loop-item : goal.invariant-loop-item
invariant-loop-item l = are_known (map (λ n. n.now) l.names) (items_view l.listed) ≡ are_known
    (map (λ n. n.now) l.names) (items_view (drop l.item-index l.listed))
