use Rattle.std.proofs.Common.{◌≡◌, drop}
use Rattle.pb_export.specs.Documents.{first_item, objects_of}
use Rattle.pb_export.proofs.documents.single_value.Given as goal

abbrev pub invariant-loop-i : goal.invariant-loop-i
invariant-loop-i l = first_item (objects_of l.list (drop l.i l.rows)) ≡ first_item (objects_of l.list l.rows)
