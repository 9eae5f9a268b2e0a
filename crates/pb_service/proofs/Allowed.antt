-- The ranges of the numbers of a table that keeps the rules of its keys.
use Rattle.std.proofs.Common.{◌≡◌, ℕ, ◌+◌, ◌<◌, ◌≤◌, ◌%◌, true, false, suc, min, List, [], ◌∷◌, ◌++◌, length, Option}
use Rattle.std.proofs.Common.{Some, None, unwrap_or, refl, arith, lit≤, inl, inr}
use Rattle.std.specs.Prelude.{nat_le, ◌==◌, ◌&&◌}
use Rattle.std.specs.Option.{option_map_or, option_to_list}
use Rattle.std.proofs.lemmas.Bool.{cases_Bool, false≢true, leb-true, eqb-true}
use Rattle.std.specs.List.{AllByRecursion}
use Rattle.pb_frame.specs.Admission.{same}
use Rattle.pb_frame.proofs.Lists.{and-left, and-right, All-imply}
use Rattle.pb_lan.specs.Plans.{IsNumber}
use Rattle.pb_frame.specs.Lists.{Rises}
use Rattle.toml.specs.Data.{Data, Items, no_items, item, as_array}
use Rattle.pb_service.specs.declared.rule.Rule.TheVariants.{Number, BridgePriority, PortPriority, Losses}
use Rattle.pb_service.specs.Values.{natural_of, rise_from, any_item, is_text}
use Rattle.pb_service.specs.Keys.{with_default, without_default, IsTaken}
use Rattle.pb_service.specs.Told.{number_told, items_told, naturals_in, number_from, listed_from}

-- a number within bounds
within : (low high default highest : ℕ) (told : Option ℕ) → high ≤ highest
    → option_map_or (λ n. nat_le low n && nat_le n high) told false ≡ true
    → (low ≤ min (unwrap_or told default) highest) × (min (unwrap_or told default) highest ≤ high)
within low high default highest None c h = absurd (false≢true h)
within low high default highest (Some n) c h =
    let a : low ≤ n = leb-true low n (and-left (nat_le low n) (nat_le n high) h) in
    let b : n ≤ high = leb-true n high (and-right (nat_le low n) (nat_le n high) h) in
    (omega arith, omega arith)

pub defaulted : (name : List ℕ) (low high default highest : ℕ) (value : Option Data) → low ≤ default → default ≤ high
    → high ≤ highest
    → IsTaken (with_default name (Number low high)) value → (low ≤ number_told default highest value)
    × (number_told default highest value ≤ high)
defaulted name low high default highest None a b c h = (omega arith, omega arith)
defaulted name low high default highest (Some d) a b c h = within low high default highest (natural_of d) c h

-- a number whose default is the highest there is, above those that the key allows
pub unlimited : (name : List ℕ) (low high highest : ℕ) (value : Option Data) → low ≤ highest → high ≤ highest
    → IsTaken (with_default name (Number low high)) value → (low ≤ number_told highest highest value)
    × (number_told highest highest value ≤ highest)
unlimited name low high highest None a c h = (omega arith, omega arith)
unlimited name low high highest (Some d) a c h = let both = within low high highest highest (natural_of d) c h
    in (both.0, omega (arith, both.1, c))

pub needed : (name : List ℕ) (low high default highest : ℕ) (value : Option Data) → high ≤ highest
    → IsTaken (without_default name (Number low high)) value → (low ≤ number_told default highest value)
    × (number_told default highest value ≤ high)
needed name low high default highest None c h = absurd cc
needed name low high default highest (Some d) c h = within low high default highest (natural_of d) c h

-- a multiple of a step
stepped : (step default highest : ℕ) (told : Option ℕ)
    → option_map_or (λ n. n % step == 0 && nat_le n highest) told false ≡ true
    → (min (unwrap_or told default) highest % step ≡ 0) × (min (unwrap_or told default) highest ≤ highest)
stepped step default highest None h = absurd (false≢true h)
stepped step default highest (Some n) h =
    let a : n % step ≡ 0 = eqb-true (n % step) 0 (and-left (n % step == 0) (nat_le n highest) h) in
    let b : n ≤ highest = leb-true n highest (and-right (n % step == 0) (nat_le n highest) h) in
    let e : min n highest ≡ n = omega arith in
    rw e (a, b)

pub bridge_priority : (name : List ℕ) (value : Option Data) → IsTaken (with_default name BridgePriority) value
    → (number_told 32768 61440 value % 4096 ≡ 0) × (number_told 32768 61440 value ≤ 61440)
bridge_priority name None h = (refl, lit≤ tt)
bridge_priority name (Some d) h = stepped 4096 32768 61440 (natural_of d) h

pub port_priority : (name : List ℕ) (value : Option Data) → IsTaken (with_default name PortPriority) value
    → (number_told 128 240 value % 16 ≡ 0) × (number_told 128 240 value ≤ 240)
port_priority name None h = (refl, lit≤ tt)
port_priority name (Some d) h = stepped 16 128 240 (natural_of d) h

-- a number followed by numbers that rise above it
rises_more : (least : ℕ) (told : Option ℕ) (rest : List ℕ) → option_map_or (nat_le least) told false ≡ true
    → AllByRecursion (λ m. suc (unwrap_or told 0) ≤ m) rest × Rises rest
    → AllByRecursion (λ m. least ≤ m) (option_to_list told ++ rest) × Rises (option_to_list told ++ rest)
rises_more least None rest h r = absurd (false≢true h)
rises_more least (Some n) rest h r =
    let a : least ≤ n = leb-true least n h in (
      (a, All-imply (λ m. suc n ≤ m) (λ m. least ≤ m) (λ m l. omega arith) rest r.0),
      (All-imply (λ m. suc n ≤ m) (λ m. n < m) (λ m l. omega arith) rest r.0, r.1),
    )

rises_from : (least : ℕ) (ds : Items) → rise_from least ds ≡ true → AllByRecursion (λ m. least ≤ m) (naturals_in ds)
    × Rises (naturals_in ds)
rises_from least no_items h = (tt, tt)
rises_from least (item d ds) h =
    let rest = rises_from (suc (unwrap_or (natural_of d) 0)) ds
    (and-right (option_map_or (nat_le least) (natural_of d) false)
    (rise_from (suc (unwrap_or (natural_of d) 0)) ds) h) in
    rises_more least (natural_of d) (naturals_in ds) (and-left (option_map_or (nat_le least) (natural_of d) false)
    (rise_from (suc (unwrap_or (natural_of d) 0)) ds) h) rest

rises_listed : (items : Option Items) → option_map_or (rise_from 0) items false ≡ true
    → Rises (naturals_in (unwrap_or items no_items))
rises_listed None h = tt
rises_listed (Some ds) h = (rises_from 0 ds h).1

-- the numbers of lost items rise (used for soundness)
pub losses : (name : List ℕ) (value : Option Data) → IsTaken (with_default name Losses) value
    → Rises (naturals_in (items_told value))
losses name None h = tt
losses name (Some d) h = rises_listed (as_array d) h

-- the numbers of listed things rise and are within bounds
listed_rise : (n : ℕ) (names : List (List ℕ)) (listed : Items)
    → AllByRecursion (λ m. (n ≤ m) × (m < n + length names)) (listed_from n names listed)
    × Rises (listed_from n names listed)
listed_rise n [] listed = (tt, tt)
listed_rise n (name ∷ names) listed =
    let rest = listed_rise (n + 1) names listed in
    let above = All-imply (λ m. (n + 1 ≤ m) × (m < n + 1 + length names))
    (λ m. (n ≤ m) × (m < n + suc (length names))) (λ m l. (omega arith, omega arith))
    (listed_from (n + 1) names listed) rest.0 in
    let over = All-imply (λ m. (n + 1 ≤ m) × (m < n + 1 + length names)) (λ m. n < m) (λ m l. omega arith)
    (listed_from (n + 1) names listed) rest.0 in
    elim (cases_Bool (any_item (is_text (same name)) listed)) [
      | inl this ↦ rw this (((omega arith, omega arith), above), (over, rest.1))
      | inr other ↦ rw other (above, rest.1)
    ]

pub listed_numbers : (count : ℕ) (names : List (List ℕ)) (listed : Items) → length names ≤ count
    → Rises (listed_from 1 names listed) × AllByRecursion (λ s. IsNumber s count) (listed_from 1 names listed)
listed_numbers count names listed h =
    let all = listed_rise 1 names listed in (
      all.1,
      All-imply (λ m. (1 ≤ m) × (m < 1 + length names)) (λ m. IsNumber m count) (λ m l. (l.0, omega arith))
          (listed_from 1 names listed) all.0,
    )

-- the number of a named thing is within bounds
pub number_below : (n : ℕ) (names : List (List ℕ)) (name : List ℕ) (k : ℕ) → number_from n names name ≡ Some k
    → (n ≤ k) × (k < n + length names)
number_below n [] name k e = absurd cc
number_below n (x ∷ names) name k e =
    elim (cases_Bool (same name x)) [
      | inl this ↦ let s : Some n ≡ Some k = rw this at e in let m : n ≡ k = cc in (omega arith, omega arith)
      | inr other ↦ let s : number_from (suc n) names name ≡ Some k = rw other at e in
          let l = number_below (suc n) names name k s in (omega arith, omega arith)
    ]

pub named_number : (count : ℕ) (names : List (List ℕ)) (name : List ℕ) (k : ℕ) → length names ≡ count
    → number_from 1 names name ≡ Some k → IsNumber k count
named_number count names name k h e = let l = number_below 1 names name k e in (l.0, omega arith)
