-- The lines of a report's rows in a table.
use Rattle.std.specs.Prelude.{ℕ, List, [], ◌∷◌, ◌++◌, map, flat_map, codes, if◌then◌else◌}
use Rattle.std.specs.Fmt.{decimal}
use Rattle.std.specs.Str.{bytes_eq}
use Rattle.csv.specs.Writing.{default_writer, row_text as csv_line, with_terminator}
use Rattle.csv.specs.declared.parser.Terminator.TheVariants.{CRLF}
use Rattle.csv.specs.declared.writer.WriterBuilder.{WriterBuilder}
use Rattle.pb_export.specs.Documents.{is_at}
use Rattle.pb_export.specs.declared.templates.Said.{Said}
use Rattle.pb_export.specs.declared.templates.Said.TheVariants.{Word, Yes, No, Nothing}
use Rattle.pb_export.specs.declared.rows.Field.{Field}
use Rattle.pb_export.specs.declared.rows.Field.TheVariants.{Text, Number, Depth, Words, Numbers, Groups, Chosen}
use Rattle.pb_export.specs.declared.rows.Filled.{Filled}
use Rattle.pb_export.specs.declared.rows.Row.{Row}
use Rattle.pb_export.specs.declared.tables.Cell.{Cell}
use Rattle.pb_export.specs.declared.tables.Cell.TheVariants.{Fixed, Held}
use Rattle.pb_export.specs.declared.tables.CellRow.{CellRow}
use Rattle.pb_export.specs.declared.tables.Table.{Table}

-- commas, quotes if they are needed, and CR LF at a line's end (RFC 4180)
abbrev pub writer : WriterBuilder
writer = with_terminator default_writer CRLF

-- the meaning of a fixed text as a cell
abbrev pub said_cell : Said → List ℕ
said_cell (Word word) = word.now
said_cell Yes = codes "yes"
said_cell No = codes "no"
said_cell Nothing = []

-- the value of a slot as a cell; a list has none
abbrev pub field_cell : Field → List ℕ
field_cell (Text t) = t.now
field_cell (Number n) = decimal n
field_cell (Depth n) = decimal n
field_cell (Words v) = []
field_cell (Numbers v) = []
field_cell (Groups v last) = []
field_cell (Chosen choice) = said_cell choice.says

-- the cell of the slot with a key
abbrev pub cell_at : List ℕ → List Filled → List ℕ
cell_at key [] = []
cell_at key (f ∷ fields) = if bytes_eq f.slot.key.now key then field_cell f.field else cell_at key fields

-- a cell of a row
abbrev pub cell_text : Row → Cell → List ℕ
cell_text row (Fixed text) = text.now
cell_text row (Held key) = cell_at key.now row.fields.items

-- the line of a row in one of a table's forms
abbrev pub line_of : Row → CellRow → List ℕ
line_of row form = if is_at form.home.now row then csv_line writer (map (cell_text row) form.cells.now) else []

-- the lines of a row
abbrev pub lines_of : List CellRow → Row → List ℕ
lines_of forms row = flat_map (line_of row) forms

-- the lines of several rows
abbrev pub rows_text : List CellRow → List Row → List ℕ
rows_text forms rows = flat_map (lines_of forms) rows

-- a line of titles, and those of each row
abbrev pub table_text : Table → List Row → List ℕ
table_text table rows = csv_line writer (map (λ t. t.now) table.titles.now) ++ rows_text table.lines.now rows
