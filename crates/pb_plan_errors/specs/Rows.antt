-- The tables of a document.
use Rattle.std.specs.Prelude.{ℕ, ℤ, pos, Bool, List, codes, unwrap_or, ◌||◌, if◌then◌else◌}
use Rattle.std.specs.Option.{option_and_then, option_map_or}
use Rattle.toml.specs.Data.{Members, as_integer, get_member}
use Rattle.pb_frame.specs.Admission.{same}
use Rattle.pb_diagnostics.specs.Sites.{row_at}
use Rattle.pb_service.specs.Tables.{text_at, items_at, is_one_of}
use Rattle.pb_service.specs.Told.{names_in, tables_in}

-- the integer at a key, or 0
abbrev pub integer_at : Members → List ℕ → ℤ
integer_at row key = unwrap_or (option_and_then as_integer (get_member key row)) (pos 0)

-- the name of a table of an array, which is empty if it has none
abbrev pub name_at : Members → List ℕ → ℕ → List ℕ
name_at document word index = option_map_or (λ row. text_at row (codes "name")) (row_at document word index) (codes "")

-- the names of the tables of an array
abbrev pub names_at : Members → List ℕ → List (List ℕ)
names_at document word = names_in (tables_in (items_at document word))

-- a table of an array has this name
abbrev pub is_named : Members → List ℕ → List ℕ → Bool
is_named document word name = is_one_of (names_at document word) name

-- the array of tables whose names a key takes
abbrev pub named_by : List ℕ → List ℕ
named_by key =
    if same key (codes "a") || (same key (codes "b") || same key (codes "bridge")) then codes "bridge"
    else if same key (codes "link") || same key (codes "links") then codes "link" else codes "service"

-- the key of the bridge whose local port a key gives
abbrev pub bridge_key : List ℕ → List ℕ
bridge_key key = if same key (codes "a_port") then codes "a" else if same key (codes "b_port") then codes "b" else codes "bridge"

-- the maximum number of tables in an array
abbrev pub most_of : List ℕ → ℕ
most_of word = if same word (codes "bridge") then 32 else if same word (codes "link") || same word (codes "service") then 64 else 128
