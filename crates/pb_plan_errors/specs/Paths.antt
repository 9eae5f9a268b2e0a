-- The paths of keys, as pb_service prints them.
use Rattle.std.specs.Prelude.{◌≡◌, ℕ, List, [], codes, ◌++◌}
use Rattle.std.specs.Str.Parse.{digits_value, without_leading_plus}
use Rattle.pb_diagnostics.specs.declared.site.Site.{Site}
use Rattle.pb_diagnostics.specs.declared.site.Site.TheVariants.{Key, TableKey, Row, RowKey}

-- the key of the table or array of tables, which is empty for a key at the top
abbrev pub word_of : Site → List ℕ
word_of (Key key) = []
word_of (TableKey word key) = word.now
word_of (Row word index) = word.now
word_of (RowKey word index key) = word.now

-- the key, which is empty for a table
abbrev pub key_of : Site → List ℕ
key_of (Key key) = key.now
key_of (TableKey word key) = key.now
key_of (Row word index) = []
key_of (RowKey word index key) = key.now

-- a table of an array is `WORD[INDEX]`, with the digits of the index
abbrev pub IsRow : List ℕ → List ℕ → ℕ → Type 0
IsRow table word index = (digits : List ℕ) × (table ≡ word ++ (codes "[" ++ (digits ++ codes "]"))) × (digits_value 10 (without_leading_plus digits) ≡ index)

-- the key of a table that is given by its text
abbrev pub IsKeyOfTable : List ℕ → List ℕ → Site → Type 0
IsKeyOfTable table key (Key top) = ⊥
IsKeyOfTable table key (TableKey word k) = (table ≡ word.now) × (k.now ≡ key)
IsKeyOfTable table key (Row word index) = ⊥
IsKeyOfTable table key (RowKey word index k) = IsRow table word.now index × (k.now ≡ key)

-- the path leads to the key: it is the key, or its table and the key after a dot
abbrev pub IsSiteOf : List ℕ → Site → Type 0
IsSiteOf path (Key key) = path ≡ key.now
IsSiteOf path site = (table : List ℕ) × (key : List ℕ) × (path ≡ table ++ (codes "." ++ key)) × IsKeyOfTable table key site

-- the table of a key, or the key itself if it is at the top
abbrev pub table_of : Site → Site
table_of (Key key) = Key key
table_of (TableKey word key) = Key word
table_of (Row word index) = Row word index
table_of (RowKey word index key) = Row word index
