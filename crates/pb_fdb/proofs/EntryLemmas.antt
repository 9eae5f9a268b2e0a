-- Lists of entries, and their sightings, for the functions of `table`.
use Rattle.std.proofs.Common.{◌==◌, ◌&&◌, nat_le, ◌≡◌, ℕ, suc, ◌<◌, ◌≤◌, Bool, true, false, cond, not, List}
use Rattle.std.proofs.Common.{[], ◌∷◌, ◌++◌, length, refl, sym, ap, ◌∙◌, arith}
use Rattle.std.proofs.lemmas.List.{length-map, map-append}
use Rattle.std.specs.List.{filter}
use Rattle.pb_frame.specs.Admission.{same}
use Rattle.pb_frame.specs.Stations.{Sighting, is_fresh, is_sighted, overrides, after}
use Rattle.pb_frame.specs.Stations.News.{Seen}
use Rattle.pb_frame.proofs.Things.{eqb-symm}
use Rattle.pb_fdb.specs.declared.entry.Entry.{Entry}
use Rattle.pb_fdb.specs.Entries.{sighting_of, sightings, table_of}
use Rattle.pb_fdb.specs.Tables.{with_room}

-- a filtered list is no longer than the list
pub filter-shorter : {X : Type 0} (p : X → Bool) (xs : List X) → length (filter p xs) ≤ length xs
filter-shorter p [] = omega arith
filter-shorter p (x ∷ xs) = elim (p x) as (λ b. length (cond b (x ∷ filter p xs) (filter p xs)) ≤ suc (length xs))
    [ true ↦ omega (arith, filter-shorter p xs) | false ↦ omega (arith, filter-shorter p xs) ]

-- a filter of the sightings is a filter of the entries
pub filter-map : (p : Sighting → Bool) (es : List Entry)
    → filter p (sightings es) ≡ sightings (filter (λ e. p (sighting_of e)) es)
filter-map p [] = refl
filter-map p (e ∷ es) = elim (p (sighting_of e)) as
    (λ b. cond b (sighting_of e ∷ filter p (sightings es)) (filter p (sightings es)) ≡ sightings
    (cond b (e ∷ filter (λ e. p (sighting_of e)) es) (filter (λ e. p (sighting_of e)) es)))
    [ true ↦ ap (λ zs. sighting_of e ∷ zs) (filter-map p es) | false ↦ filter-map p es ]

-- a filter keeps as many sightings as entries
pub filter-map-length : (p : Sighting → Bool) (es : List Entry)
    → length (filter p (sightings es)) ≡ length (filter (λ e. p (sighting_of e)) es)
filter-map-length p es = ap length (filter-map p es) ∙ length-map (filter (λ e. p (sighting_of e)) es) sighting_of

-- the order of the operands does not matter to `same`
pub same-symm : (a b : List ℕ) → same a b ≡ same b a
same-symm [] [] = refl
same-symm [] (y ∷ ys) = refl
same-symm (x ∷ xs) [] = refl
same-symm (x ∷ xs) (y ∷ ys) = ap (λ t. t && same xs ys) (eqb-symm x y) ∙ ap (λ t. (y == x) && t) (same-symm xs ys)

-- a sighting is overridden exactly by those of its own station
pub overrides-is_sighted : (s t : Sighting) → overrides t (Seen s) ≡ is_sighted s.vid s.mac t
overrides-is_sighted s t = ap (λ b. b && same s.mac t.mac) (eqb-symm s.vid t.vid)
    ∙ ap (λ b. (t.vid == s.vid) && b) (same-symm s.mac t.mac)

-- a filtered list is shorter than n if the list is
pub filter_fits : {X : Type 0} (p : X → Bool) (xs : List X) (n : ℕ) → length xs < n → length (filter p xs) < n
filter_fits p xs n h = omega (arith, filter-shorter p xs)

-- the sightings of the entries after one of them is replaced by a newer one at the end
pub sightings-anew : (s : Sighting) (es fs : List Entry) (e : Entry) → sighting_of e ≡ s
    → fs ≡ filter (λ f. not (overrides (sighting_of f) (Seen s))) es ++ e ∷ []
    → sightings fs ≡ after (sightings es) (Seen s)
sightings-anew s es fs e i h =
    ap sightings h
    ∙ map-append sighting_of (filter (λ f. not (overrides (sighting_of f) (Seen s))) es) (e ∷ [])
    ∙ ap (λ zs. zs ++ sighting_of e ∷ []) (sym (filter-map (λ t. not (overrides t (Seen s))) es))
    ∙ ap (λ z. filter (λ t. not (overrides t (Seen s))) (sightings es) ++ z ∷ []) i

-- the sightings that remain when one is added are those of the entries that remain
pub with_room-table_of : (limit ageing clock now : ℕ) (es : List Entry)
    → with_room (table_of limit ageing clock es) now ≡ sightings
    (cond (nat_le limit (length es)) (filter (λ e. is_fresh ageing now (sighting_of e)) es) es)
with_room-table_of limit ageing clock now es =
    ap (λ n. cond (nat_le limit n) (filter (is_fresh ageing now) (sightings es)) (sightings es))
    (length-map es sighting_of)
    ∙ elim (nat_le limit (length es))
    as (λ b. cond b (filter (is_fresh ageing now) (sightings es)) (sightings es) ≡ sightings
    (cond b (filter (λ e. is_fresh ageing now (sighting_of e)) es) es))
    [ true ↦ filter-map (is_fresh ageing now) es | false ↦ refl ]
