use Rattle.std.proofs.Common.{◌≡◌, ◌++◌, drop, map, string_bytes}
use Rattle.pb_export.specs.Tables.{cell_text}
use Rattle.pb_export.proofs.tables.cells_of.Given as goal

abbrev pub invariant-loop-cell : goal.invariant-loop-cell
invariant-loop-cell l = map string_bytes l.texts.items ++ map (cell_text l.row) (drop l.cell-index l.cells) ≡ map
    (cell_text l.row) l.cells
