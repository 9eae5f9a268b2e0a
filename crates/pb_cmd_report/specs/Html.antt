-- Texts, cells, rows and tables in HTML.
use Rattle.std.specs.Prelude.{ℕ, List, ◌++◌, codes, flat_map, ◌==◌, if◌then◌else◌}
use Rattle.std.specs.Char.{encode_utf8}
use Rattle.std.specs.Fmt.{decimal}
use Rattle.std.specs.Str.{chars}
use Rattle.pb_cmd_report.specs.declared.texts.TheConstants.{TABLE_END}

-- a character, or the entity of one that has a meaning in HTML: & < > "
abbrev pub shown : ℕ → List ℕ
shown c =
    if c == 38 then codes "&amp;" else if c == 60 then codes "&lt;" else if c == 62 then codes "&gt;"
    else if c == 34 then codes "&quot;" else encode_utf8 c

-- a text of a page
unfoldable pub escaped : List ℕ → List ℕ
escaped text = flat_map shown (chars text)

-- a cell with a text, and one with a number
unfoldable pub cell_of : List ℕ → List ℕ
cell_of text = codes "<td>" ++ escaped text ++ codes "</td>"

unfoldable pub number_cell : ℕ → List ℕ
number_cell number = codes "<td>" ++ decimal number ++ codes "</td>"

-- a row with its attributes and its cells
unfoldable pub row_of : List ℕ → List ℕ → List ℕ
row_of attributes cells = codes "<tr" ++ attributes ++ codes ">" ++ cells ++ codes "</tr>\n"

-- a table from its beginning, with its heads, and its rows
unfoldable pub table_of : List ℕ → List ℕ → List ℕ
table_of head rows = head ++ rows ++ TABLE_END.now
