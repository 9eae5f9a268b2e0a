-- When a key of a table is accepted, and when it is refused.
use Rattle.std.specs.Prelude.{◌≡◌, ℕ, Bool, true, false, List, [], ◌∷◌, map, ◌⊎◌, Some, None, if◌then◌else◌}
use Rattle.std.specs.declared.option.Option.{Option}
use Rattle.std.specs.List.{AllByRecursion, list_any}
use Rattle.pb_frame.specs.Admission.{same}
use Rattle.toml.specs.Data.{Data, Members, no_members, member, get_member}
use Rattle.pb_service.specs.declared.rule.Rule.{Rule}
use Rattle.pb_service.specs.declared.rule.Key.{Key}
use Rattle.pb_service.specs.declared.key_fault.KeyFault.{KeyFault}
use Rattle.pb_service.specs.declared.key_fault.KeyFault.TheVariants.{Missing as missing, Kind as kind, Range as range}
use Rattle.pb_service.specs.declared.fault.PlanFault.{PlanFault}
use Rattle.pb_service.specs.declared.fault.PlanFault.TheVariants.{Missing, Kind, Range, Unknown, Memory}
use Rattle.pb_service.specs.declared.section.KeyTable.{KeyTable}
use Rattle.pb_service.specs.Sections.{path_at}
use Rattle.pb_service.specs.Values.{is_of_kind, IsAllowed}

-- a key of a table: its name, whether it must be present, and the rule for its value
pub record KeyRule : Type 0 where
  pub name : List ℕ
  pub needed : Bool
  pub rule : Rule

abbrev pub with_default : List ℕ → Rule → KeyRule
with_default name rule = record { name = name; needed = false; rule = rule }

abbrev pub without_default : List ℕ → Rule → KeyRule
without_default name rule = record { name = name; needed = true; rule = rule }

abbrev pub rule_of : Key → KeyRule
rule_of key = record { name = key.name.now; needed = key.needed; rule = key.rule }

abbrev pub rules_of : List Key → List KeyRule
rules_of keys = map rule_of keys

-- the value at the key is accepted: it is allowed, or it is missing and has a default
abbrev pub IsTaken : KeyRule → Option Data → Type 0
IsTaken key None = key.needed ≡ false
IsTaken key (Some d) = IsAllowed key.rule d

-- the value at the key is refused for this reason
abbrev pub IsRefused : KeyRule → Option Data → KeyFault → Type 0
IsRefused key None missing = key.needed ≡ true
IsRefused key (Some d) kind = is_of_kind key.rule d ≡ false
IsRefused key (Some d) range = (is_of_kind key.rule d ≡ true) × (IsAllowed key.rule d → ⊥)
IsRefused key value fault = ⊥

-- one of the names is this key
abbrev pub is_known : List (List ℕ) → List ℕ → Bool
is_known names key = list_any (same key) names

-- the first key of a table that isn't one of the known names
abbrev pub first_unknown : List (List ℕ) → Members → Option (List ℕ)
first_unknown names no_members = None
first_unknown names (member key d members) = if is_known names key then first_unknown names members else Some key

abbrev pub names_of : List KeyRule → List (List ℕ)
names_of keys = map (λ k. k.name) keys

-- each key of the table is accepted, and the table has no other keys
pub record IsAccepted (keys : List KeyRule) (row : Members) : Type 0 where
  pub taken : AllByRecursion (λ k. IsTaken k (get_member k.name row)) keys
  pub known : first_unknown (names_of keys) row ≡ None

-- the fault of a key, with its path
abbrev pub fault_of : KeyFault → List ℕ → PlanFault
fault_of missing path = Missing path
fault_of kind path = Kind path
fault_of range path = Range path

-- the fact holds of one of the things
abbrev pub SomeOf : {X : Type 0} → (X → Type 0) → List X → Type 0
SomeOf P [] = ⊥
SomeOf P (x ∷ xs) = P x ⊎ SomeOf P xs

-- one of the keys is refused for this reason, and the path is that of the key
abbrev pub RefusesKey : List KeyRule → KeyTable → Members → KeyFault → List ℕ → Type 0
RefusesKey keys key_table row fault path = SomeOf (λ k. IsRefused k (get_member k.name row) fault × (path ≡ path_at key_table k.name)) keys

-- the table breaks the rule of its keys that the fault names
abbrev pub RefusesRow : List KeyRule → KeyTable → Members → PlanFault → Type 0
RefusesRow keys key_table row (Missing path) = RefusesKey keys key_table row missing path
RefusesRow keys key_table row (Kind path) = RefusesKey keys key_table row kind path
RefusesRow keys key_table row (Range path) = RefusesKey keys key_table row range path
RefusesRow keys key_table row (Unknown path) = (key : List ℕ) × (first_unknown (names_of keys) row ≡ Some key) × (path ≡ path_at key_table key)
RefusesRow keys key_table row Memory = Unit {0}
RefusesRow keys key_table row other = ⊥
