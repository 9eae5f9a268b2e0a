use Rattle.std.proofs.Common.{◌≡◌, ◌++◌, drop}
use Rattle.pb_export.specs.Tables.{rows_text}
use Rattle.pb_export.proofs.tables.put_rows.Given as goal

abbrev pub invariant-loop-row : goal.invariant-loop-row
invariant-loop-row l = l.out.items ++ rows_text l.forms (drop l.row-index l.rows) ≡ l.initial.out.items
    ++ rows_text l.forms l.rows
