use Rattle.std.proofs.Common.{◌≡◌, ◌++◌, drop, map}
use Rattle.serde_json.specs.View.{view}
use Rattle.pb_export.specs.Documents.{objects_of}
use Rattle.pb_export.proofs.documents.object_values.Given as goal

abbrev pub invariant-loop-i : goal.invariant-loop-i
invariant-loop-i l = map view l.items.items ++ objects_of l.list (drop l.i l.rows) ≡ objects_of l.list l.rows
