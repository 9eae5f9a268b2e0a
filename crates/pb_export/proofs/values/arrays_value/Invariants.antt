use Rattle.std.proofs.Common.{◌≡◌, ◌++◌, drop, map}
use Rattle.serde_json.specs.View.{view}
use Rattle.pb_export.specs.Documents.{words_data}
use Rattle.pb_export.proofs.values.arrays_value.Given as goal

abbrev pub invariant-loop-group : goal.invariant-loop-group
invariant-loop-group l = map view l.values.items ++ map (λ g. words_data g.items) (drop l.group-index l.groups) ≡ map
    (λ g. words_data g.items) l.groups
