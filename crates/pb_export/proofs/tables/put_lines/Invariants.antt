use Rattle.std.proofs.Common.{◌≡◌, ◌++◌, drop}
use Rattle.pb_export.specs.Tables.{lines_of}
use Rattle.pb_export.proofs.tables.put_lines.Given as goal

abbrev pub invariant-loop-form : goal.invariant-loop-form
invariant-loop-form l = l.out.items ++ lines_of (drop l.form-index l.forms) l.row ≡ l.initial.out.items
    ++ lines_of l.forms l.row
