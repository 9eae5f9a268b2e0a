-- The hints of errors.
use Rattle.std.specs.Prelude.{◌≡◌, ℕ, List, codes, ◌++◌, ◌||◌, string_bytes, option_map, option_and_then}
use Rattle.std.specs.Prelude.{Option, Some, None, IfSome, String, if◌then◌else◌}
use Rattle.std.specs.Fmt.{decimal}
use Rattle.std.specs.declared.alloc.Global.{Global}
use Rattle.toml.specs.Data.{Members}
use Rattle.pb_frame.specs.Admission.{same}
use Rattle.pb_diagnostics.specs.Nearest.{nearest, this_or}
use Rattle.pb_diagnostics.specs.declared.site.Site.{Site}
use Rattle.pb_diagnostics.specs.declared.site.Site.TheVariants.{RowKey}
use Rattle.pb_printable.specs.Printable.{printable}
use Rattle.pb_service.specs.declared.fault.PlanFault.{PlanFault}
use Rattle.pb_service.specs.declared.fault.PlanFault.TheVariants.{Range, Unknown, Twice, NoSuch, LinkEnd}
use Rattle.pb_service.specs.Told.{has_key}
use Rattle.pb_plan_errors.specs.Marks.{IsLineOf}
use Rattle.pb_plan_errors.specs.Messages.{table_of_key}
use Rattle.pb_plan_errors.specs.Paths.{word_of, key_of}
use Rattle.pb_plan_errors.specs.Rows.{name_at, names_at, named_by}
use Rattle.pb_plan_errors.specs.Rules.{keys_of}
use Rattle.pb_plan_errors.specs.declared.finding.Finding.{Finding}

-- another name was meant: the nearest one
abbrev pub meant : List ℕ → List (List ℕ) → Option (List ℕ)
meant text names = option_map (λ near. codes "did you mean \"" ++ near ++ codes "\"?") (nearest text names)

-- the kinds of customer ports that have a key which the others lack
abbrev pub kinds_with : List ℕ → Option (List ℕ)
kinds_with key =
    if same key (codes "in") then Some (codes "\"memory\"")
    else if same key (codes "read") || same key (codes "replay") || same key (codes "speed") then
    Some (codes "\"capture\" or \"replay\"")
    else if same key (codes "write") || same key (codes "stamp") then Some (codes "\"capture\" or \"record\"")
    else if same key (codes "path") then Some (codes "\"socket\" without listen")
    else if same key (codes "listen") || (same key (codes "stay") || same key (codes "framing")) then Some (codes "\"socket\"")
    else if same key (codes "local") || (same key (codes "remote") || same key (codes "encap")) then Some (codes "\"udp\"")
    else if same key (codes "vni") then Some (codes "\"udp\" with encap \"vxlan\"") else None

-- a key of a customer port is for these kinds
abbrev pub is_for_kind : List ℕ → List ℕ → List ℕ
is_for_kind key kinds = key ++ codes " is for kind " ++ kinds

-- the hint for an unknown key of a table: the kinds of customer ports that have it, or else the nearest key
abbrev pub unknown_hint : List ℕ → List ℕ → Option (List ℕ)
unknown_hint word key =
    this_or (option_map (is_for_kind key) (if same word (codes "port") then kinds_with key else None)) (meant key (keys_of word))

-- a table by its kind and its name has the value, at a line
abbrev pub has_it : List ℕ → List ℕ → ℕ → List ℕ
has_it word name line = word ++ codes " \"" ++ name ++ codes "\" has it at line " ++ decimal line

-- another table has the value, at its line of the file
abbrev pub TellsLine : List ℕ → Members → Site → List ℕ → Type 0
TellsLine file document (RowKey word index key) text =
    (line : ℕ) × IsLineOf file (RowKey word index key) line × (text ≡ has_it word.now (name_at document word.now index) line)
TellsLine file document other text = ⊥

-- the hint names the other key of the finding by its line, if it has one
abbrev pub TellsOther : List ℕ → Members → Option Site → Option (String Global) → Type 0
TellsOther file document None hint = hint ≡ None
TellsOther file document (Some other) hint = IfSome hint (λ h. TellsLine file document other (string_bytes h))

-- the key for both ends of a link that is in place of a key of one end
abbrev pub key_for_both : List ℕ → Option (List ℕ)
key_for_both key =
    if same key (codes "a_cost") || same key (codes "b_cost") then Some (codes "cost")
    else if same key (codes "a_services") || same key (codes "b_services") then Some (codes "services") else None

-- a key is for both ends, beside a key of one end
abbrev pub is_for_both : List ℕ → List ℕ → List ℕ
is_for_both both key = both ++ codes " is for both ends; remove " ++ key ++ codes " or " ++ both

-- a table has a key for both ends beside this key of one end
abbrev pub both_hint : Members → List ℕ → Option (List ℕ)
both_hint row key =
    option_and_then (λ both. if has_key row both then Some (is_for_both both key) else None) (key_for_both key)

-- the hint for a value that is not allowed: the table of the key has another key, which is for both ends
abbrev pub range_hint : Members → Site → Option (List ℕ)
range_hint document site = option_and_then (λ row. both_hint row (key_of site)) (table_of_key document site)

-- the hint for a fault: the kinds of ports that have the key or the nearest key of the table, the nearest name of the plan, the line of the other key, or the
-- key for both ends
abbrev pub IsHint : List ℕ → Members → PlanFault → Finding → Option (String Global) → Type 0
IsHint file document (Unknown path) f hint = option_map string_bytes hint ≡ unknown_hint (word_of f.about) (key_of f.about)
IsHint file document (Range path) f hint = option_map string_bytes hint ≡ range_hint document f.about
IsHint file document (NoSuch name) f hint = option_map string_bytes hint ≡ meant name (names_at document (named_by (key_of f.about)))
IsHint file document (Twice name) f hint = TellsOther file document f.other hint
IsHint file document LinkEnd f hint = TellsOther file document f.other hint
IsHint file document fault f hint = hint ≡ None

-- the printed hint for a fault, with the control characters of names escaped
abbrev pub IsPrintedHint : List ℕ → Members → PlanFault → Finding → Option (List ℕ) → Type 0
IsPrintedHint file document fault f text =
    (hint : Option (String Global)) × (text ≡ option_map (λ h. printable (string_bytes h)) hint)
    × IsHint file document fault f hint
