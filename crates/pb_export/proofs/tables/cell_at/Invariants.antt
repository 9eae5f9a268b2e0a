use Rattle.std.proofs.Common.{◌≡◌, drop}
use Rattle.pb_export.specs.Tables.{cell_at}
use Rattle.pb_export.proofs.tables.cell_at.Given as goal

abbrev pub invariant-loop-filled : goal.invariant-loop-filled
invariant-loop-filled l = cell_at l.key (drop l.filled-index l.fields) ≡ cell_at l.key l.fields
