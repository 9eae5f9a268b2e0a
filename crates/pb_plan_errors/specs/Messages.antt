-- The messages of errors.
use Rattle.std.specs.Prelude.{◌≡◌, ℕ, ℤ, List, [], ◌∷◌, ◌++◌, codes, Some, None, if◌then◌else◌}
use Rattle.std.specs.declared.option.Option.{Option}
use Rattle.std.specs.Fmt.{decimal, signed_decimal}
use Rattle.toml.specs.Data.{Members}
use Rattle.pb_lan.specs.Names.{is_name}
use Rattle.pb_diagnostics.specs.Sites.{row_at, table_at}
use Rattle.pb_diagnostics.specs.declared.site.Site.{Site}
use Rattle.pb_diagnostics.specs.declared.site.Site.TheVariants.{Key, TableKey, Row, RowKey}
use Rattle.pb_printable.specs.Printable.{printable}
use Rattle.pb_service.specs.Tables.{text_at}
use Rattle.pb_service.specs.declared.fault.PlanFault.{PlanFault}
use Rattle.pb_service.specs.declared.fault.PlanFault.TheVariants.{Missing, Kind, Range, Unknown, Twice, NoSuch, LinkEnd, TooMany}
use Rattle.pb_plan_errors.specs.Paths.{word_of, key_of}
use Rattle.pb_plan_errors.specs.Rows.{integer_at, name_at, named_by, bridge_key, most_of}

-- a table by its kind and its name
abbrev pub named : List ℕ → List ℕ → List ℕ
named word name = word ++ codes " \"" ++ name ++ codes "\": "

-- a table by its kind and its index
abbrev pub placed : List ℕ → ℕ → List ℕ
placed word index = word ++ codes "[" ++ decimal index ++ codes "]: "

-- a table of an array by its name, if it has one
abbrev pub row_subject : List ℕ → ℕ → List ℕ → List ℕ
row_subject word index name = if is_name name then named word name else placed word index

-- the table that an error is about
abbrev pub subject : Members → Site → List ℕ
subject document (Key key) = []
subject document (TableKey word key) = word.now ++ codes ": "
subject document (Row word index) = []
subject document (RowKey word index key) = row_subject word.now index (name_at document word.now index)

-- a text after a space, or nothing for the empty text
abbrev pub spaced : List ℕ → List ℕ
spaced [] = []
spaced (b ∷ bs) = codes " " ++ (b ∷ bs)

-- the value of a key is not what it must be
abbrev pub is_not : List ℕ → List ℕ → List ℕ → List ℕ
is_not key value wanted = key ++ spaced value ++ codes " is not " ++ wanted

-- the table of a key
abbrev pub table_of_key : Members → Site → Option Members
table_of_key document (Key key) = None
table_of_key document (TableKey word key) = table_at document word.now
table_of_key document (Row word index) = None
table_of_key document (RowKey word index key) = row_at document word.now index

-- a local port is used twice
abbrev pub shared_port : ℤ → List ℕ → List ℕ
shared_port port bridge = codes "port " ++ signed_decimal port ++ codes " of bridge \"" ++ bridge ++ codes "\" is used twice"

-- the local port at a key of a table is used twice
abbrev pub shared : Option Members → List ℕ → List ℕ
shared None key = []
shared (Some row) key = shared_port (integer_at row key) (text_at row (bridge_key key))

-- the text is what is wrong with a key or table; `value` is the text of the key's value
abbrev pub IsWrong : Members → PlanFault → Site → List ℕ → List ℕ → Type 0
IsWrong document (Missing path) site value text = text ≡ key_of site ++ codes " is missing"
IsWrong document (Kind path) site value text = (wanted : List ℕ) × (text ≡ is_not (key_of site) value wanted)
IsWrong document (Range path) site value text = (wanted : List ℕ) × (text ≡ is_not (key_of site) value wanted)
IsWrong document (Unknown path) site value text = text ≡ codes "unknown key " ++ key_of site
IsWrong document (Twice name) site value text = text ≡ codes "another " ++ word_of site ++ codes " has the " ++ key_of site ++ codes " " ++ name
IsWrong document (NoSuch name) site value text = text ≡ codes "no " ++ named_by (key_of site) ++ codes " is named \"" ++ name ++ codes "\""
IsWrong document LinkEnd site value text = text ≡ shared (table_of_key document site) (key_of site)
IsWrong document TooMany site value text = text ≡ codes "more than " ++ decimal (most_of (word_of site)) ++ codes " tables [[" ++ word_of site ++ codes "]]"
IsWrong document fault site value text = Unit {0}

-- the text is the message for a fault at a key or table of a document: the table, and what is wrong
abbrev pub IsMessage : Members → PlanFault → Site → List ℕ → List ℕ → Type 0
IsMessage document fault site value text = (wrong : List ℕ) × (text ≡ subject document site ++ wrong) × IsWrong document fault site value wrong

-- the printed message for a fault, with the control characters of keys, names and values escaped
abbrev pub IsPrintedMessage : Members → PlanFault → Site → List ℕ → List ℕ → Type 0
IsPrintedMessage document fault site value text =
    (message : List ℕ) × (text ≡ printable message) × IsMessage document fault site value message
