-- Keys and tables of a TOML document.
use Rattle.std.specs.Prelude.{ℕ, Bool, false, List, is_some}
use Rattle.std.specs.declared.option.Option.{Option}
use Rattle.std.specs.Option.{option_map_or, option_and_then}
use Rattle.toml.specs.Data.{Members, as_table, at, get_member}
use Rattle.pb_diagnostics.specs.declared.site.Site.{Site}
use Rattle.pb_diagnostics.specs.declared.site.Site.TheVariants.{Key, TableKey, Row, RowKey}

-- the table at a key
abbrev pub table_at : Members → List ℕ → Option Members
table_at document word = option_and_then as_table (get_member word document)

-- the table of an array of tables, counted from 0
abbrev pub row_at : Members → List ℕ → ℕ → Option Members
row_at document word index = option_and_then as_table (option_and_then (at index) (get_member word document))

-- there is such a table, and it has the key
abbrev pub has_key : Option Members → List ℕ → Bool
has_key row key = option_map_or (λ ms. is_some (get_member key ms)) row false

-- the document has the key or the table
abbrev pub has_site : Members → Site → Bool
has_site document (Key key) = is_some (get_member key.now document)
has_site document (TableKey word key) = has_key (table_at document word.now) key.now
has_site document (Row word index) = is_some (row_at document word.now index)
has_site document (RowKey word index key) = has_key (row_at document word.now index) key.now
