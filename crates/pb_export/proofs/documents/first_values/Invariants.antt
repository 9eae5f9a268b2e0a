use Rattle.std.proofs.Common.{◌≡◌, ◌++◌, drop, map}
use Rattle.serde_json.specs.View.{view}
use Rattle.pb_export.specs.Documents.{values_of}
use Rattle.pb_export.proofs.documents.first_values.Given as goal

abbrev pub invariant-loop-row : goal.invariant-loop-row
invariant-loop-row l = map view l.items.items ++ values_of l.key (drop l.row-index l.rows) ≡ values_of l.key l.rows
