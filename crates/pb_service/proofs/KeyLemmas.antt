-- The keys of tables.
use Rattle.std.proofs.Common.{◌≡◌, ℕ, ◌<◌, List, [], ◌∷◌, zero, suc, length, get_or, Option, option_map, refl, arith}
use Rattle.std.proofs.Common.{string_bytes, inl, inr}
use Rattle.std.specs.Prelude.{find, not, ◌⊎◌}
use Rattle.std.specs.Map.{keys_of}
use Rattle.std.proofs.lemmas.Bool.{cases_Bool}
use Rattle.toml.specs.Data.{Data, Members, get_member}
use Rattle.toml.specs.View.{members_view}
use Rattle.toml.proofs.Views.{Entry}
use Rattle.pb_service.specs.declared.rule.Key.{Key}
use Rattle.pb_service.specs.declared.section.KeyTable.{KeyTable}
use Rattle.pb_service.specs.declared.key_fault.KeyFault.{KeyFault}
use Rattle.pb_service.specs.declared.key_fault.KeyFault.TheVariants.{Missing, Kind, Range}
use Rattle.pb_service.specs.declared.fault.PlanFault.{PlanFault}
use Rattle.pb_service.specs.declared.fault.PlanFault.TheVariants.{Memory}
use Rattle.pb_service.specs.Sections.{path_at}
use Rattle.pb_service.specs.Keys.{KeyRule, rule_of, rules_of, is_known, first_unknown, SomeOf, IsRefused, RefusesKey}
use Rattle.pb_service.specs.Keys.{RefusesRow, fault_of}

-- the first unknown key that a search in the map finds is that of the definition (used by `unknown_key` and
-- `unknown_top`)
pub first_unknown-find : (names : List (List ℕ)) (es : List Entry)
    → option_map string_bytes (find (λ key. not (is_known names (string_bytes key))) (keys_of es)) ≡ first_unknown
    names (members_view es)
first_unknown-find names [] = refl
first_unknown-find names (e ∷ es) =
    elim (cases_Bool (is_known names (string_bytes e.0))) [
      | inl known ↦ rw known (first_unknown-find names es)
      | inr other ↦ rw other
    ]

-- a fact of the key at an index is a fact of one of the keys (used by `refused_at`)
pub some_at : (P : KeyRule → Type 0) (keys : List Key) (i : ℕ) (d : Key) → i < length keys
    → P (rule_of (get_or keys i d)) → SomeOf P (rules_of keys)
some_at P [] i d h p = absurd (omega arith)
some_at P (k ∷ ks) zero d h p = inl p
some_at P (k ∷ ks) (suc i) d h p = inr (some_at P ks i d (omega arith) p)

-- the fault of a refused key refuses its table (used by `refused_at`)
pub refuses_told : (keys : List KeyRule) (key_table : KeyTable) (row : Members) (f : KeyFault) (path : List ℕ)
    (e : PlanFault)
    → RefusesKey keys key_table row f path → (e ≡ Memory) ⊎ (e ≡ fault_of f path) → RefusesRow keys key_table row e
refuses_told keys key_table row Missing path e h (inl m) = rw m tt
refuses_told keys key_table row Missing path e h (inr t) = rw t h
refuses_told keys key_table row Kind path e h (inl m) = rw m tt
refuses_told keys key_table row Kind path e h (inr t) = rw t h
refuses_told keys key_table row Range path e h (inl m) = rw m tt
refuses_told keys key_table row Range path e h (inr t) = rw t h

pub refused_at : (keys : List Key) (key_table : KeyTable) (row : Members) (i : ℕ) (d : Key) (f : KeyFault)
    (value : Option Data) (e : PlanFault) → i < length keys
    → value ≡ get_member (get_or keys i d).name.now row → IsRefused (rule_of (get_or keys i d)) value f
    → (e ≡ Memory) ⊎ (e ≡ fault_of f (path_at key_table (get_or keys i d).name.now))
    → RefusesRow (rules_of keys) key_table row e
refused_at keys key_table row i d f value e h same refused told =
    let here : IsRefused (rule_of (get_or keys i d)) (get_member (get_or keys i d).name.now row) f =
    rw (← same) refused in
    let path = path_at key_table (get_or keys i d).name.now in
    refuses_told (rules_of keys) key_table row f path e
    (some_at (λ k. IsRefused k (get_member k.name row) f × (path ≡ path_at key_table k.name)) keys i d h (here, refl))
    told
