-- Entries in the order of learning.
use Rattle.std.proofs.Common.{◌≡◌, ℕ, ◌-◌, ◌<◌, ◌≤◌, Bool, true, false, cond, nat_le, nat_lt, Some, None, List}
use Rattle.std.proofs.Common.{[], ◌∷◌, ◌++◌, length, drop, slice_get, refl, sym, ap, ◌∙◌, length-append, arith}
use Rattle.std.proofs.lemmas.Bool.Decides.{nat_tests}
use Rattle.std.specs.declared.option.Option.{Option}
use Rattle.std.specs.List.{AllByRecursion, filter}
use Rattle.std.specs.Option.{option_map, option_to_list}
use Rattle.pb_frame.proofs.Lists.{All-imply, All-append, Some-injective, filter-append, filter-swap, All-passed}
use Rattle.pb_frame.specs.Lists.{first}
use Rattle.pb_frame.specs.Stations.{is_fresh, is_sighted}
use Rattle.pb_fdb.proofs.EntryLemmas.{filter-map, filter-shorter}
use Rattle.pb_fdb.specs.declared.entry.Entry.{Entry}
use Rattle.pb_fdb.specs.Entries.{sighting_of, sightings, fresh_entries, entries_with_room, without_station, InOrder}
use Rattle.pb_fdb.specs.Entries.{IsKept, table_of}
use Rattle.pb_fdb.specs.Tables.{where_in}

-- a filtered list is in order
pub InOrder-filter : (p : Entry → Bool) (es : List Entry) → InOrder es → InOrder (filter p es)
InOrder-filter p [] o = tt
InOrder-filter p (e ∷ es) o =
    elim (p e) as (λ b. InOrder (cond b (e ∷ filter p es) (filter p es))) [
      | true ↦ (All-passed (λ f. e.learnt ≤ f.learnt) p es o.0, InOrder-filter p es o.1)
      | false ↦ InOrder-filter p es o.1
    ]

-- a list with a later entry appended is in order
pub InOrder-push : (es : List Entry) (e : Entry) → InOrder es → AllByRecursion (λ f. f.learnt ≤ e.learnt) es
    → InOrder (es ++ e ∷ [])
InOrder-push [] e o a = (tt, tt)
InOrder-push (f ∷ es) e o a =
    (All-append (λ g. f.learnt ≤ g.learnt) es (e ∷ []) o.0 (a.0, tt), InOrder-push es e o.1 a.1)

-- the bound by the clock holds at a later clock
pub before-later : (clock now : ℕ) (es : List Entry) → clock ≤ now → AllByRecursion (λ e. e.learnt ≤ clock) es
    → AllByRecursion (λ e. e.learnt ≤ now) es
before-later clock now es h = All-imply (λ e. e.learnt ≤ clock) (λ e. e.learnt ≤ now) (λ e l. omega (arith, h, l)) es

-- an entry that was learnt later than a fresh one is fresh
fresh-later : (ageing now first later : ℕ) → first ≤ later → nat_lt (now - first) ageing ≡ true
    → nat_lt (now - later) ageing ≡ true
fresh-later ageing now first later h f = let l : now - first < ageing = grind (arith, nat_tests) in grind
    (arith, nat_tests)

all-fresh : (ageing now : ℕ) (es : List Entry) → AllByRecursion (λ e. is_fresh ageing now (sighting_of e) ≡ true) es
    → fresh_entries ageing now es ≡ es
all-fresh ageing now [] a = refl
all-fresh ageing now (e ∷ es) a = ap (λ b. cond b (e ∷ fresh_entries ageing now es) (fresh_entries ageing now es)) a.0
    ∙ ap (λ zs. e ∷ zs) (all-fresh ageing now es a.1)

-- if the oldest entry is fresh, all are
pub oldest-fresh : (ageing now : ℕ) (es : List Entry) (e : Entry) → InOrder es → Some e ≡ slice_get es 0
    → is_fresh ageing now (sighting_of e) ≡ true → fresh_entries ageing now es ≡ es
oldest-fresh ageing now [] e o is h = cc
oldest-fresh ageing now (f ∷ es) e o is h =
    let fresh : is_fresh ageing now (sighting_of f) ≡ true = ap (λ g. is_fresh ageing now (sighting_of g))
    (sym (Some-injective is)) ∙ h in
    all-fresh ageing now (f ∷ es) (
      fresh,
      All-imply (λ g. f.learnt ≤ g.learnt) (λ g. is_fresh ageing now (sighting_of g) ≡ true)
          (λ g l. fresh-later ageing now f.learnt g.learnt l fresh) es o.0,
    )

-- if the oldest entry has aged out, the fresh ones are among the others
pub oldest-old : (ageing now : ℕ) (es : List Entry) (e : Entry) → Some e ≡ slice_get es 0
    → is_fresh ageing now (sighting_of e) ≡ false
    → fresh_entries ageing now es ≡ fresh_entries ageing now (drop 1 es)
oldest-old ageing now [] e is h = cc
oldest-old ageing now (f ∷ es) e is h =
    ap (λ b. cond b (f ∷ fresh_entries ageing now es) (fresh_entries ageing now es))
    (ap (λ g. is_fresh ageing now (sighting_of g)) (sym (Some-injective is)) ∙ h)

-- if the oldest entry has aged out, fewer are fresh
pub oldest-old-fewer : (ageing now : ℕ) (es : List Entry) (e : Entry) → Some e ≡ slice_get es 0
    → is_fresh ageing now (sighting_of e) ≡ false
    → length (fresh_entries ageing now es) < length es
oldest-old-fewer ageing now [] e is h = cc
oldest-old-fewer ageing now (f ∷ es) e is h =
    rw (oldest-old ageing now (f ∷ es) e is h)
    (omega (arith, filter-shorter (λ g. is_fresh ageing now (sighting_of g)) es))

-- a list without a first element is empty
pub oldest-none : (es : List Entry) → None ≡ slice_get es 0 → es ≡ []
oldest-none [] is = refl
oldest-none (e ∷ es) is = cc

-- aged entries may be removed before or after a new entry is added
pub fresh-replaced : (ageing : ℕ) (es : List Entry) (e : Entry) → 0 < ageing
    → fresh_entries ageing e.learnt (without_station e es ++ e ∷ []) ≡ without_station e
    (fresh_entries ageing e.learnt es) ++ e ∷ []
fresh-replaced ageing es e h =
    let fresh : is_fresh ageing e.learnt (sighting_of e) ≡ true = grind (arith, nat_tests) in
    filter-append (λ f. is_fresh ageing e.learnt (sighting_of f)) (without_station e es) (e ∷ [])
    ∙ ap (λ b. fresh_entries ageing e.learnt (without_station e es) ++ cond b (e ∷ []) []) fresh
    ∙ ap (λ zs. zs ++ e ∷ []) (filter-swap (λ f. is_fresh ageing e.learnt (sighting_of f)) _ es)

-- the first element that passes is the first of the filtered list
first-head : {X : Type 0} (p : X → Bool) (xs : List X) → first p xs ≡ slice_get (filter p xs) 0
first-head p [] = refl
first-head p (x ∷ xs) = elim (p x) as
    (λ b. cond b (Some x) (first p xs) ≡ slice_get (cond b (x ∷ filter p xs) (filter p xs)) 0)
    [ true ↦ refl | false ↦ first-head p xs ]

-- the station's fresh entry gives its port
pub where-found : (limit ageing clock now vid : ℕ) (mac : List ℕ) (es : List Entry) (o : Option Entry)
    → filter (λ e. is_sighted vid mac (sighting_of e)) es ≡ option_to_list o
    → where_in (table_of limit ageing clock es) now vid mac ≡ option_map (λ s. s.port)
    (slice_get (filter (is_fresh ageing now) (sightings (option_to_list o))) 0)
where-found limit ageing clock now vid mac es o h =
    ap (option_map (λ s. s.port)) (
    first-head (is_sighted vid mac) (filter (is_fresh ageing now) (sightings es))
    ∙ ap (λ xs. slice_get xs 0) (filter-swap (is_sighted vid mac) (is_fresh ageing now) (sightings es))
    ∙ ap (λ xs. slice_get (filter (is_fresh ageing now) xs) 0) (filter-map (is_sighted vid mac) es ∙ ap sightings h)
    )

-- a filter preserves the invariant of the table
pub IsKept-filter : (limit ageing clock : ℕ) (p : Entry → Bool) (es : List Entry) → IsKept limit ageing clock es
    → IsKept limit ageing clock (filter p es)
IsKept-filter limit ageing clock p es k = record {
  ageing_is = k.ageing_is;
  fits = let n = k.fits in omega (arith, filter-shorter p es);
  order = InOrder-filter p es k.order;
  before = All-passed (λ e. e.learnt ≤ clock) p es k.before;
}

-- a later clock preserves the invariant of the table
pub IsKept-later : (limit ageing clock now : ℕ) (es : List Entry) → clock ≤ now → IsKept limit ageing clock es
    → IsKept limit ageing now es
IsKept-later limit ageing clock now es h k =
    record { ageing_is = k.ageing_is; fits = k.fits; order = k.order; before = before-later clock now es h k.before }

-- an entry that is learnt at the clock preserves the invariant, if there is space for it
pub IsKept-push : (limit ageing : ℕ) (es : List Entry) (e : Entry) → IsKept limit ageing e.learnt es
    → length es < limit → IsKept limit ageing e.learnt (es ++ e ∷ [])
IsKept-push limit ageing es e k room = record {
  ageing_is = k.ageing_is;
  fits = omega (arith, length-append es (e ∷ []));
  order = InOrder-push es e k.order k.before;
  before = All-append (λ f. f.learnt ≤ e.learnt) es (e ∷ []) k.before (omega arith, tt);
}

-- the entries that remain when one is added keep the invariant
pub IsKept-room : (limit ageing now : ℕ) (es : List Entry) → IsKept limit ageing now es
    → IsKept limit ageing now (entries_with_room limit ageing now es)
IsKept-room limit ageing now es k =
    elim (nat_le limit (length es)) as (λ b. IsKept limit ageing now (cond b (fresh_entries ageing now es) es))
    [ true ↦ IsKept-filter limit ageing now (λ e. is_fresh ageing now (sighting_of e)) es k | false ↦ k ]

-- there is space for one more entry, unless as many are live as the limit allows
pub room-left : (limit ageing now : ℕ) (es : List Entry) → nat_le limit (length (fresh_entries ageing now es)) ≡ false
    → length (entries_with_room limit ageing now es) < limit
room-left limit ageing now es h =
    elim (nat_le limit (length es)) as
    (λ b. nat_le limit (length es) ≡ b → length (cond b (fresh_entries ageing now es) es) < limit)
    [ true ↦ λ f. grind (arith, nat_tests) | false ↦ λ f. grind (arith, nat_tests) ] refl

-- if the limit is reached and the oldest entry is live, as many are live as the limit allows
pub full-fresh : (limit ageing now : ℕ) (es : List Entry) (e : Entry) → InOrder es → length es ≤ limit
    → limit ≤ length es → Some e ≡ slice_get es 0
    → is_fresh ageing now (sighting_of e) ≡ nat_le limit (length (fresh_entries ageing now es))
full-fresh limit ageing now es e o fits full is =
    elim (is_fresh ageing now (sighting_of e)) as (λ b. is_fresh ageing now (sighting_of e) ≡ b → b ≡ nat_le limit
    (length (fresh_entries ageing now es))) [
      | true ↦ λ f. let same = ap length (oldest-fresh ageing now es e o is f) in grind (arith, nat_tests)
      | false ↦ λ f. let fewer = oldest-old-fewer ageing now es e is f in grind (arith, nat_tests)
    ] refl
