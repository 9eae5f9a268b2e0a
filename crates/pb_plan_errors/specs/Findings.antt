-- The key or table at which a document breaks a rule.
use Rattle.std.specs.Prelude.{◌≡◌, ◌⊎◌, ◌<◌, ℕ, ℤ, Bool, true, false, List, map, Some, None, IsSome}
use Rattle.std.specs.Borrow.{Bor}
use Rattle.std.specs.Char.{to_ascii_lowercase}
use Rattle.std.specs.Str.Parse.{signed_digits_value}
use Rattle.std.specs.declared.option.Option.{Option}
use Rattle.toml.specs.Data.{Members}
use Rattle.pb_frame.specs.Admission.{same}
use Rattle.pb_diagnostics.specs.Sites.{row_at}
use Rattle.pb_diagnostics.specs.declared.mark.Part.{Part}
use Rattle.pb_diagnostics.specs.declared.mark.Part.TheVariants.{Whole, Key as KeyPart, Value}
use Rattle.pb_diagnostics.specs.declared.site.Site.{Site}
use Rattle.pb_diagnostics.specs.declared.site.Site.TheVariants.{Row, RowKey}
use Rattle.pb_service.specs.Tables.{text_at, items_at}
use Rattle.pb_service.specs.Values.{any_item, is_text}
use Rattle.pb_service.specs.declared.fault.PlanFault.{PlanFault}
use Rattle.pb_service.specs.declared.fault.PlanFault.TheVariants.{Missing, Kind, Range, Unknown, Twice, NoSuch, LinkEnd, TooMany}
use Rattle.pb_plan_errors.specs.Paths.{IsSiteOf, table_of}
use Rattle.pb_plan_errors.specs.Rows.{integer_at, is_named, named_by, bridge_key, most_of}
use Rattle.pb_plan_errors.specs.declared.finding.Finding.{Finding}

-- a table of an array has this property
abbrev pub HasRow : Members → List ℕ → ℕ → (Members → Type 0) → Type 0
HasRow document word index P = (row : Members) × (row_at document word index ≡ Some row) × P row

-- the value at the key is this text in any case of letters, or this number
abbrev pub HasWord : List ℕ → List ℕ → Members → Type 0
HasWord key text row = (map to_ascii_lowercase (text_at row key) ≡ map to_ascii_lowercase text) ⊎ (signed_digits_value 10 text ≡ integer_at row key)

-- the key has the value of the same key of an earlier table
abbrev pub IsAgain : Members → List ℕ → Site → Option Site → Type 0
IsAgain document text (RowKey word index key) (Some (RowKey other earlier same_key)) =
    (other.now ≡ word.now) × (same_key.now ≡ key.now) × (earlier < index)
    × HasRow document word.now index (HasWord key.now text) × HasRow document word.now earlier (HasWord key.now text)
IsAgain document text about other = ⊥

-- the key names this, or its list does
abbrev pub Names : List ℕ → List ℕ → Members → Type 0
Names key name row = (text_at row key ≡ name) ⊎ (any_item (is_text (same name)) (items_at row key) ≡ true)

-- the key of a table names this, and nothing has the name
abbrev pub Lacks : Members → List ℕ → Members → Bor (List ℕ) → Type 0
Lacks document name row key = Names key.now name row × (is_named document (named_by key.now) name ≡ false)

-- the key names something that isn't there
abbrev pub IsLacking : Members → List ℕ → Site → Type 0
IsLacking document name (RowKey word index key) = HasRow document word.now index (λ row. Lacks document name row key)
IsLacking document name about = ⊥

-- the key is that of a local port of a bridge
abbrev pub UsesPort : Members → List ℕ → ℤ → Site → Type 0
UsesPort document bridge port (RowKey word index key) = HasRow document word.now index (λ row. (text_at row (bridge_key key.now) ≡ bridge) × (integer_at row key.now ≡ port))
UsesPort document bridge port about = ⊥

-- the two keys are of the same local port
abbrev pub IsShared : Members → Site → Option Site → Type 0
IsShared document about None = ⊥
IsShared document about (Some other) = (bridge : List ℕ) × (port : ℤ) × UsesPort document bridge port about × UsesPort document bridge port other

-- the first table too many
abbrev pub IsTooMany : Members → Site → Type 0
IsTooMany document (Row word index) = (index ≡ most_of word.now) × IsSome (row_at document word.now index)
IsTooMany document about = ⊥

-- the finding shows what it is about, and marks this part
abbrev pub IsAt : Finding → Part → Type 0
IsAt f part = (f.shown ≡ f.about) × (f.part ≡ part)

abbrev pub IsTwice : Members → List ℕ → Finding → Type 0
IsTwice document name f = IsAgain document name f.about f.other × IsAt f Value

abbrev pub IsNoSuch : Members → List ℕ → Finding → Type 0
IsNoSuch document name f = IsLacking document name f.about × IsAt f Value

abbrev pub IsLinkEnd : Members → Finding → Type 0
IsLinkEnd document f = IsShared document f.about f.other × IsAt f Value

abbrev pub IsExcess : Members → Finding → Type 0
IsExcess document f = IsTooMany document f.about × IsAt f Whole

-- the key or table at which the document breaks the rule of a fault, and what is shown of the file
abbrev pub IsFinding : Members → PlanFault → Finding → Type 0
IsFinding document (Missing path) f = IsSiteOf path f.about × (f.shown ≡ table_of f.about) × (f.part ≡ Whole)
IsFinding document (Kind path) f = IsSiteOf path f.about × IsAt f Value
IsFinding document (Range path) f = IsSiteOf path f.about × IsAt f Value
IsFinding document (Unknown path) f = IsSiteOf path f.about × IsAt f KeyPart
IsFinding document (Twice name) f = IsTwice document name f
IsFinding document (NoSuch name) f = IsNoSuch document name f
IsFinding document LinkEnd f = IsLinkEnd document f
IsFinding document TooMany f = IsExcess document f
IsFinding document fault f = ⊥

-- the fault is about the key of a path
abbrev pub has_path : PlanFault → Bool
has_path (Missing path) = true
has_path (Kind path) = true
has_path (Range path) = true
has_path (Unknown path) = true
has_path fault = false
