use Rattle.std.proofs.Common.{◌≡◌, drop}
use Rattle.pb_export.specs.Documents.{is_in}
use Rattle.pb_export.proofs.documents.is_in.Given as goal

abbrev pub invariant-loop-key : goal.invariant-loop-key
invariant-loop-key l = is_in (drop l.key-index l.keys) l.row ≡ is_in l.keys l.row
