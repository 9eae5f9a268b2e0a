-- The result of `learn`, and the entries after it, by the station's entry.
use Rattle.std.proofs.Common.{◌≡◌, ℕ, ◌<◌, ◌≤◌, Bool, true, false, cond, not, nat_le, Some, None, List, [], ◌∷◌, ◌++◌}
use Rattle.std.proofs.Common.{length, slice_get, refl, sym, ap, ◌∙◌, subst, arith}
use Rattle.std.proofs.lemmas.Bool.Decides.{nat_tests}
use Rattle.std.specs.List.{filter}
use Rattle.std.specs.Option.{option_map}
use Rattle.pb_frame.proofs.Lists.{filter-same}
use Rattle.pb_frame.specs.Stations.{is_fresh, is_sighted}
use Rattle.pb_fdb.proofs.EntryLemmas.{filter-shorter, filter-map-length, overrides-is_sighted}
use Rattle.pb_fdb.proofs.OrderLemmas.{IsKept-filter, IsKept-later, IsKept-push, fresh-replaced, where-found}
use Rattle.pb_fdb.specs.declared.entry.Entry.{Entry}
use Rattle.pb_fdb.specs.Entries.{sighting_of, table_of, without_station, fresh_entries, entries_with_room, IsKept}
use Rattle.pb_fdb.specs.Tables.{where_in, is_full}

-- the table is full exactly if its fresh entries reach the limit
pub full-table_of : (limit ageing clock now : ℕ) (es : List Entry)
    → is_full (table_of limit ageing clock es) now ≡ nat_le limit (length (fresh_entries ageing now es))
full-table_of limit ageing clock now es = ap (nat_le limit) (filter-map-length (is_fresh ageing now) es)

-- a station without an entry is not found
pub where-none : (limit ageing clock now vid : ℕ) (mac : List ℕ) (es : List Entry)
    → filter (λ e. is_sighted vid mac (sighting_of e)) es ≡ []
    → where_in (table_of limit ageing clock es) now vid mac ≡ None
where-none limit ageing clock now vid mac es h = where-found limit ageing clock now vid mac es None h

-- a station whose entry has aged out is not found
pub where-old : (limit ageing clock now vid : ℕ) (mac : List ℕ) (es : List Entry) (old : Entry)
    → filter (λ e. is_sighted vid mac (sighting_of e)) es ≡ old ∷ []
    → is_fresh ageing now (sighting_of old) ≡ false → where_in (table_of limit ageing clock es) now vid mac ≡ None
where-old limit ageing clock now vid mac es old h f =
    where-found limit ageing clock now vid mac es (Some old) h
    ∙ ap (λ b. option_map (λ s. s.port) (slice_get (cond b (sighting_of old ∷ []) []) 0)) f

-- a station whose entry is fresh is found at its port
pub where-fresh : (limit ageing clock now vid : ℕ) (mac : List ℕ) (es : List Entry) (old : Entry)
    → filter (λ e. is_sighted vid mac (sighting_of e)) es ≡ old ∷ []
    → is_fresh ageing now (sighting_of old) ≡ true
    → where_in (table_of limit ageing clock es) now vid mac ≡ Some old.port
where-fresh limit ageing clock now vid mac es old h f =
    where-found limit ageing clock now vid mac es (Some old) h
    ∙ ap (λ b. option_map (λ s. s.port) (slice_get (cond b (sighting_of old ∷ []) []) 0)) f

-- if one element passes a test, fewer fail it
passed-fewer : {X : Type 0} (p : X → Bool) (xs : List X) (x : X) (ys : List X) → filter p xs ≡ x ∷ ys
    → length (filter (λ x. not (p x)) xs) < length xs
passed-fewer p [] x ys h = cc
passed-fewer p (z ∷ xs) x ys h =
    elim (p z) as (λ b. cond b (z ∷ filter p xs) (filter p xs) ≡ x ∷ ys → length
    (cond (not b) (z ∷ filter (λ x. not (p x)) xs) (filter (λ x. not (p x)) xs)) < length (z ∷ xs)) [
      | true ↦ λ e. omega (arith, filter-shorter (λ x. not (p x)) xs)
      | false ↦ λ e. omega (arith, passed-fewer p xs x ys e)
    ] h

-- an entry that has aged out is not among the live ones
old-fewer : (ageing now : ℕ) (p : Entry → Bool) (es : List Entry) (old : Entry) → filter p es ≡ old ∷ []
    → is_fresh ageing now (sighting_of old) ≡ false
    → length (fresh_entries ageing now es) < length es
old-fewer ageing now p [] old h f = cc
old-fewer ageing now p (e ∷ es) old h f =
    elim (p e) as (λ b. cond b (e ∷ filter p es) (filter p es) ≡ old ∷ [] → length
    (cond (is_fresh ageing now (sighting_of e)) (e ∷ fresh_entries ageing now es) (fresh_entries ageing now es))
    < length (e ∷ es)) [
      | true ↦ λ g.
          let same : e ≡ old = cc in
          let stale : is_fresh ageing now (sighting_of e) ≡ false = ap (λ o. is_fresh ageing now (sighting_of o)) same
          ∙ f in
          rw stale (omega (arith, filter-shorter (λ g. is_fresh ageing now (sighting_of g)) es))
      | false ↦ λ g.
          let fewer = old-fewer ageing now p es old g f in
          elim (is_fresh ageing now (sighting_of e)) as
          (λ b. length (cond b (e ∷ fresh_entries ageing now es) (fresh_entries ageing now es)) < length (e ∷ es))
          [ true ↦ omega (arith, fewer) | false ↦ omega (arith, fewer) ]
    ] h

-- if a station's entry has aged out, fewer stations are live than the limit allows
pub old-room : (limit ageing now : ℕ) (p : Entry → Bool) (es : List Entry) (old : Entry) → length es ≤ limit
    → filter p es ≡ old ∷ [] → is_fresh ageing now (sighting_of old) ≡ false
    → nat_le limit (length (fresh_entries ageing now es)) ≡ false
old-room limit ageing now p es old fits h f = let fewer = old-fewer ageing now p es old h f in grind (arith, nat_tests)

-- without a station's entry, the table has space for the next one
pub replaced-fewer : (e : Entry) (es : List Entry) (old : Entry)
    → filter (λ f. is_sighted e.vid e.mac.0 (sighting_of f)) es ≡ old ∷ [] → length (without_station e es) < length es
replaced-fewer e es old h =
    rw (filter-same _ (λ f. not (is_sighted e.vid e.mac.0 (sighting_of f)))
    (λ f. ap not (overrides-is_sighted (sighting_of e) (sighting_of f))) es)
    (passed-fewer (λ f. is_sighted e.vid e.mac.0 (sighting_of f)) es old [] h)

-- the invariant of the table holds after an entry is renewed
pub kept-renewed : (limit ageing clock : ℕ) (e : Entry) (es js : List Entry) (old : Entry) → clock ≤ e.learnt
    → IsKept limit ageing clock es
    → filter (λ f. is_sighted e.vid e.mac.0 (sighting_of f)) es ≡ old ∷ [] → js ≡ without_station e es ++ e ∷ []
    → IsKept limit ageing e.learnt js
kept-renewed limit ageing clock e es js old in_time kept h is =
    let room : length (without_station e es) < limit = let fits =
    kept.fits in omega (arith, replaced-fewer e es old h) in
    subst (IsKept limit ageing e.learnt) (sym is)
    (IsKept-push limit ageing (without_station e es) e
    (IsKept-filter limit ageing e.learnt _ es (IsKept-later limit ageing clock e.learnt es in_time kept)) room)

-- removing aged entries after a renewal gives the same entries as removing them before it
pub swept-renewed : (full : Bool) (limit ageing : ℕ) (e : Entry) (es js : List Entry)
    → full ≡ nat_le limit (length es) → 0 < ageing → js ≡ without_station e es ++ e ∷ []
    → cond full (fresh_entries ageing e.learnt js) js ≡ without_station e (entries_with_room limit ageing e.learnt es)
    ++ e ∷ []
swept-renewed full limit ageing e es js is h r =
    ap (λ js. cond full (fresh_entries ageing e.learnt js) js) r
    ∙ elim full as (λ b. cond b (fresh_entries ageing e.learnt (without_station e es ++ e ∷ []))
    (without_station e es ++ e ∷ [])
    ≡ without_station e (cond b (fresh_entries ageing e.learnt es) es) ++ e ∷ [])
    [ true ↦ fresh-replaced ageing es e h | false ↦ refl ]
    ∙ ap (λ b. without_station e (cond b (fresh_entries ageing e.learnt es) es) ++ e ∷ []) is

-- the invariant of the table holds after aged entries are removed
pub kept-swept : (full : Bool) (limit ageing now : ℕ) (js : List Entry) → IsKept limit ageing now js
    → IsKept limit ageing now (cond full (fresh_entries ageing now js) js)
kept-swept true limit ageing now js k = IsKept-filter limit ageing now (λ e. is_fresh ageing now (sighting_of e)) js k
kept-swept false limit ageing now js k = k
