use Rattle.std.proofs.Common.{◌≡◌, ◌++◌, drop, map}
use Rattle.pb_export.proofs.tables.put_titles.Given as goal

abbrev pub invariant-loop-title : goal.invariant-loop-title
invariant-loop-title l = map (λ o. o.now) l.octets.items ++ map (λ t. t.now) (drop l.title-index l.titles) ≡ map
    (λ t. t.now) l.titles
