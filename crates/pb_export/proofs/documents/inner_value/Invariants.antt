use Rattle.std.proofs.Common.{◌≡◌, ◌++◌, drop, map}
use Rattle.serde_json.specs.View.{view}
use Rattle.pb_export.specs.Documents.{inner_items}
use Rattle.pb_export.proofs.documents.inner_value.Given as goal

abbrev pub invariant-loop-row : goal.invariant-loop-row
invariant-loop-row l = map view l.items.items ++ inner_items l.key l.keys (drop l.row-index l.rows) ≡ inner_items
    l.key l.keys l.rows
