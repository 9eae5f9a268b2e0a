-- The value at a key of a table, with a default.
use Rattle.std.specs.Prelude.{ℕ, Bool, false, suc, ◌+◌, ◌==◌, codes, min, List, [], ◌∷◌, ◌++◌, map, Some, None, unwrap_or, if◌then◌else◌, is_some}
use Rattle.std.specs.declared.option.Option.{Option}
use Rattle.std.specs.Option.{option_map_or, option_and_then, option_to_list}
use Rattle.pb_frame.specs.Admission.{same}
use Rattle.toml.specs.Data.{Data, Items, no_items, item, Members, no_members, as_array, as_bool, as_table, get_member}
use Rattle.pb_lan.specs.declared.shape.PortState.{PortState}
use Rattle.pb_lan.specs.declared.shape.PortState.TheVariants.{Discarding, Learning, Forwarding}
use Rattle.pb_lan.specs.declared.plan.Queues.{Queues}
use Rattle.pb_lan.specs.declared.plan.Queues.TheVariants.{PerPort, PerClass}
use Rattle.pb_lan.specs.declared.plan.Spanning.{Spanning}
use Rattle.pb_lan.specs.declared.plan.Spanning.TheVariants.{Fixed, Rstp}
use Rattle.pb_service.specs.declared.port_spec.LengthField.{LengthField}
use Rattle.pb_service.specs.declared.port_spec.LengthField.TheVariants.{Two, Four}
use Rattle.pb_service.specs.declared.port_spec.Stamp.{Stamp}
use Rattle.pb_service.specs.declared.port_spec.Stamp.TheVariants.{Ticks, Time}
use Rattle.pb_service.specs.declared.section.Section.{Section}
use Rattle.pb_service.specs.declared.tap.TapDirection.{TapDirection}
use Rattle.pb_service.specs.declared.tap.TapDirection.TheVariants.{Ab, Ba, Both}
use Rattle.pb_service.specs.Sections.{word_of}
use Rattle.pb_service.specs.Values.{natural_of, text_in, any_item, is_text}

-- the number, or the default, and never above the highest
abbrev pub number_told : ℕ → ℕ → Option Data → ℕ
number_told default highest value = min (unwrap_or (option_and_then natural_of value) default) highest

-- the table has the key
abbrev pub has_key : Members → List ℕ → Bool
has_key row key = is_some (get_member key row)

-- the flag, or false
abbrev pub flag_told : Option Data → Bool
flag_told value = unwrap_or (option_and_then as_bool value) false

-- the flag, if there is one
abbrev pub flag_in : Option Data → Option Bool
flag_in value = option_and_then as_bool value

-- the text, or the empty one
abbrev pub text_told : Option Data → List ℕ
text_told value = option_map_or text_in value []

-- the list, or the empty one
abbrev pub items_told : Option Data → Items
items_told value = unwrap_or (option_and_then as_array value) no_items

abbrev pub table_told : Option Data → Members
table_told value = unwrap_or (option_and_then as_table value) no_members

abbrev pub state_of : List ℕ → PortState
state_of text = if same text (codes "discarding") then Discarding else if same text (codes "learning") then Learning else Forwarding

abbrev pub spanning_of : List ℕ → Spanning
spanning_of text = if same text (codes "rstp") then Rstp else Fixed

-- a queue for each class if the text is `class`, and one for each port if it is any other
abbrev pub queues_of : List ℕ → Queues
queues_of text = if same text (codes "class") then PerClass else PerPort

abbrev pub stamp_of : List ℕ → Stamp
stamp_of text = if same text (codes "time") then Time else Ticks

-- four octets of length if the number is 4, and two if it is any other
abbrev pub framing_of : ℕ → LengthField
framing_of octets = if octets == 4 then Four else Two

-- one direction if the text names it, and both if it is any other
abbrev pub direction_of : List ℕ → TapDirection
direction_of text = if same text (codes "ab") then Ab else if same text (codes "ba") then Ba else Both

-- the natural numbers of a list
abbrev pub naturals_in : Items → List ℕ
naturals_in no_items = []
naturals_in (item d ds) = option_to_list (natural_of d) ++ naturals_in ds

-- the tables of a list
abbrev pub tables_in : Items → List Members
tables_in no_items = []
tables_in (item d ds) = option_to_list (as_table d) ++ tables_in ds

-- the tables of an array
abbrev pub rows_of : Members → Section → List Members
rows_of document section = tables_in (items_told (get_member (word_of section) document))

-- the names of tables
abbrev pub names_in : List Members → List (List ℕ)
names_in rows = map (λ row. text_told (get_member (codes "name") row)) rows

-- the number of the first thing with this name, if the things are numbered from n
abbrev pub number_from : ℕ → List (List ℕ) → List ℕ → Option ℕ
number_from n [] name = None
number_from n (x ∷ names) name = if same name x then Some n else number_from (suc n) names name

-- the numbers of the things whose names are listed, if the things are numbered from n
abbrev pub listed_from : ℕ → List (List ℕ) → Items → List ℕ
listed_from n [] listed = []
listed_from n (name ∷ names) listed = (if any_item (is_text (same name)) listed then n ∷ [] else []) ++ listed_from (n + 1) names listed
