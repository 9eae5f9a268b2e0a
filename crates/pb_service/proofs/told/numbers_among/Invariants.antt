use Rattle.std.proofs.Common.{◌≡◌, ◌++◌, ◌+◌, drop, map}
use Rattle.toml.specs.View.{items_view}
use Rattle.pb_service.specs.Told.{listed_from}
use Rattle.pb_service.proofs.told.numbers_among.Given as goal

abbrev pub invariant-loop-index : goal.invariant-loop-index
invariant-loop-index l = l.numbers.items ++ listed_from (l.index + 1) (map (λ n. n.now) (drop l.index l.names))
    (items_view l.listed) ≡ listed_from 1 (map (λ n. n.now) l.names) (items_view l.listed)
