-- The entries of a log, as its index changes, for the functions of `journal`.
use Rattle.std.proofs.Common.{◌≡◌, ℕ, zero, suc, ◌+◌, ◌-◌, ◌^◌, ◌<◌, ◌≤◌, ◌%◌, ◌==◌, Bool, true, false, cond, not}
use Rattle.std.proofs.Common.{is_some, Some, None, List, [], ◌∷◌, ◌++◌, length, drop, slice_get, refl, sym, ap, ◌∙◌}
use Rattle.std.proofs.Common.{subst, arith, append-nil, append_assoc, length-append}
use Rattle.std.proofs.lemmas.Bool.{eqb-true}
use Rattle.std.specs.declared.option.Option.{Option}
use Rattle.std.specs.List.{filter}
use Rattle.std.specs.Option.{option_map, option_to_list}
use Rattle.pb_frame.proofs.Lists.{Some-injective, false-unless, eqb-refl, filter-append, filter-twice}
use Rattle.pb_frame.specs.Stations.{is_sighted}
use Rattle.pb_frame.specs.declared.mac.Mac.{Mac}
use Rattle.pb_fdb.specs.Entries.{sighting_of}
use Rattle.pb_fdb.specs.declared.entry.Entry.{Entry}
use Rattle.pb_fdb.specs.declared.station.LastSeen.{LastSeen}
use Rattle.pb_fdb.specs.declared.station.Station.{Station}
use Rattle.pb_fdb.specs.Journals.{is_same, is_of, entry_of, Index, IsIndexWith, place_after, entry_at, entries_from}
use Rattle.pb_fdb.specs.Journals.{HasEach, stays}
use Rattle.pb_fdb.proofs.StationLemmas.{same_station, itself, other-way, of-one, none-left, none-pass, parted}
use Rattle.pb_fdb.proofs.StationLemmas.{sighted-of}

-- an entry passes a test if every entry of its station does, and fails it if every one does
entry-kept : (p : Entry → Bool) (s : Station) → ((seen : LastSeen) → p (entry_of s seen) ≡ true)
    → (at : ℕ) (o : Option LastSeen) → filter p (entry_at at s o) ≡ entry_at at s o
entry-kept p s passes at None = refl
entry-kept p s passes at (Some seen) =
    elim (at == seen.at) as (λ b. filter p (cond b (entry_of s seen ∷ []) []) ≡ cond b (entry_of s seen ∷ []) [])
    [ true ↦ ap (λ b. cond b (entry_of s seen ∷ []) []) (passes seen) | false ↦ refl ]

pub entry-dropped : (p : Entry → Bool) (s : Station) → ((seen : LastSeen) → p (entry_of s seen) ≡ false)
    → (at : ℕ) (o : Option LastSeen) → filter p (entry_at at s o) ≡ []
entry-dropped p s fails at None = refl
entry-dropped p s fails at (Some seen) =
    elim (at == seen.at) as (λ b. filter p (cond b (entry_of s seen ∷ []) []) ≡ [])
    [ true ↦ ap (λ b. cond b (entry_of s seen ∷ []) []) (fails seen) | false ↦ refl ]

-- the place 0 places on is the place itself
place-none : (at : ℕ) → at < 2 ^ 64 → place_after at 0 ≡ at
place-none at below = omega arith

place-more : (at n : ℕ) → place_after (place_after at 1) n ≡ place_after at (suc n)
place-more at n = omega arith

pub place-below : (at n : ℕ) → place_after at n < 2 ^ 64
place-below at n = omega arith

-- none of the next `n` places is where the station was last seen
abbrev pub Misses : Option LastSeen → ℕ → ℕ → Type 0
Misses None at n = zero ≡ zero
Misses (Some seen) at zero = zero ≡ zero
Misses (Some seen) at (suc n) = ((at == seen.at) ≡ false) × Misses (Some seen) (place_after at 1) n

missed : (w : Option LastSeen) (at n : ℕ) (s : Station) → Misses w at (suc n) → entry_at at s w ≡ []
missed None at n s m = refl
missed (Some seen) at n s m = ap (λ b. cond b (entry_of s seen ∷ []) []) m.0

missed-more : (w : Option LastSeen) (at n : ℕ) → Misses w at (suc n) → Misses w (place_after at 1) n
missed-more None at n m = m
missed-more (Some seen) at n m = m.1

-- the place after them is not one of them
pub misses-behind : (seen : LastSeen) (at k n : ℕ) → at < 2 ^ 64 → k ≤ n → n < 2 ^ 64 → seen.at ≡ place_after at n
    → Misses (Some seen) at k
misses-behind seen at zero n a l b is = refl
misses-behind seen at (suc k) n a l b is =
    let shift : place_after at n ≡ place_after (place_after at 1) (n - 1) = omega arith in (
      false-unless (at == seen.at) (λ e. let same : at ≡ (at + n) % 2 ^ 64 = eqb-true at seen.at e ∙ is in absurd
          (omega (arith, same))),
      misses-behind seen (place_after at 1) k (n - 1) (place-below at 1) (omega arith) (omega arith) (is ∙ shift),
    )

-- if a station was last seen at none of a log's places, the entries are those of the other stations
pub entries-with : (f g : Index) (s0 : Station) (w : Option LastSeen) → IsIndexWith s0 w f g
    → (at : ℕ) (xs : List Station) → Misses w at (length xs)
    → entries_from g at xs ≡ filter (λ e. not (is_of s0 e)) (entries_from f at xs)
entries-with f g s0 w is at [] m = refl
entries-with f g s0 w is at (s ∷ ss) m =
    let p : Entry → Bool = λ e. not (is_of s0 e) in
    let later = entries-with f g s0 w is (place_after at 1) ss (missed-more w at (length ss) m) in
    let parts = filter-append p (entry_at at s (f s)) (entries_from f (place_after at 1) ss) in
    elim (is_same s0 s) as (λ b. is_same s0 s ≡ b → entry_at at s (g s) ++ entries_from g (place_after at 1) ss
    ≡ filter p (entry_at at s (f s) ++ entries_from f (place_after at 1) ss)) [
      | true ↦ λ h.
          ap (λ o. entry_at at s o ++ entries_from g (place_after at 1) ss) (is s ∙ ap (λ b. cond b w (f s)) h)
          ∙ ap (λ zs. zs ++ entries_from g (place_after at 1) ss) (missed w at (length ss) s m) ∙ later
          ∙ sym (parts ∙ ap (λ zs. zs ++ filter p (entries_from f (place_after at 1) ss))
          (entry-dropped p s (λ seen. ap not h) at (f s)))
      | false ↦ λ h.
          ap (λ o. entry_at at s o ++ entries_from g (place_after at 1) ss) (is s ∙ ap (λ b. cond b w (f s)) h)
          ∙ ap (λ zs. entry_at at s (f s) ++ zs) later
          ∙ sym (parts ∙ ap (λ zs. zs ++ filter p (entries_from f (place_after at 1) ss))
          (entry-kept p s (λ seen. ap not h) at (f s)))
    ] refl

-- the entries of two logs joined are the entries of both
pub entries-append : (f : Index) (at : ℕ) (xs ys : List Station) → at < 2 ^ 64
    → entries_from f at (xs ++ ys) ≡ entries_from f at xs ++ entries_from f (place_after at (length xs)) ys
entries-append f at [] ys below = ap (λ n. entries_from f n ys) (sym (place-none at below))
entries-append f at (x ∷ xs) ys below =
    ap (λ zs. entry_at at x (f x) ++ zs) (entries-append f (place_after at 1) xs ys (place-below at 1) ∙ ap
    (λ n. entries_from f (place_after at 1) xs ++ entries_from f n ys) (place-more at (length xs)))
    ∙ sym (append_assoc (entry_at at x (f x)) (entries_from f (place_after at 1) xs)
    (entries_from f (place_after at (suc (length xs))) ys))

-- the latest place of a station has its entry
pub entry-here : (s : Station) (seen : LastSeen) (at : ℕ) (o : Option LastSeen) → o ≡ Some seen → at ≡ seen.at
    → entry_at at s o ≡ entry_of s seen ∷ []
entry-here s seen at o is place = ap (entry_at at s) is ∙ ap (λ n. cond (n == seen.at) (entry_of s seen ∷ []) [])
    place ∙ ap (λ b. cond b (entry_of s seen ∷ []) []) (eqb-refl seen.at)

-- the value of the changed index at the changed station
with-itself : (f g : Index) (s : Station) (w : Option LastSeen) → IsIndexWith s w f g → g s ≡ w
with-itself f g s w is = is s ∙ ap (λ b. cond b w (f s)) (itself s)

-- a station that is last seen after a log has its entry last
pub entries-put : (f g : Index) (s : Station) (seen : LastSeen) (at : ℕ) (xs : List Station)
    → IsIndexWith s (Some seen) f g → at < 2 ^ 64 → length xs < 2 ^ 64 → seen.at ≡ place_after at (length xs)
    → entries_from g at (xs ++ s ∷ []) ≡ filter (λ e. not (is_of s e)) (entries_from f at xs) ++ entry_of s seen ∷ []
entries-put f g s seen at xs is below fits place =
    entries-append g at xs (s ∷ []) below
    ∙ ap (λ zs. entries_from g at xs ++ zs) (append-nil (entry_at (place_after at (length xs)) s (g s)) ∙ entry-here s
    seen (place_after at (length xs)) (g s) (with-itself f g s (Some seen) is) (sym place))
    ∙ ap (λ zs. zs ++ entry_of s seen ∷ [])
    (entries-with f g s (Some seen) is at xs
    (misses-behind seen at (length xs) (length xs) below (omega arith) fits place))

-- each station keeps exactly one entry, if one is moved to the end
pub each-with : (f g : Index) (s0 : Station) (seen : LastSeen) → IsIndexWith s0 (Some seen) f g → (es : List Entry)
    → HasEach f es → HasEach g (filter (λ e. not (is_of s0 e)) es ++ entry_of s0 seen ∷ [])
each-with f g s0 seen is es each s seen_now at_s =
    let p : Entry → Bool = λ e. not (is_of s0 e) in
    elim (is_same s0 s) as (λ b. is_same s0 s ≡ b → filter (is_of s) (filter p es ++ entry_of s0 seen ∷ []) ≡ entry_of
    s seen_now ∷ []) [
      | true ↦ λ h.
          let one : s0 ≡ s = same_station s0 s h in
          let same_seen : seen ≡ seen_now = Some-injective (sym (is s ∙ ap (λ b. cond b (Some seen) (f s)) h) ∙ at_s) in
          subst (λ t. filter (is_of t) (filter p es ++ entry_of s0 seen ∷ []) ≡ entry_of t seen_now ∷ []) one (
          filter-append (is_of s0) (filter p es) (entry_of s0 seen ∷ [])
          ∙ ap (λ zs. zs ++ filter (is_of s0) (entry_of s0 seen ∷ [])) (none-left (is_of s0) es)
          ∙ ap (λ b. cond b (entry_of s0 seen ∷ []) []) (itself s0) ∙ ap (λ x. entry_of s0 x ∷ []) same_seen)
      | false ↦ λ h.
          filter-append (is_of s) (filter p es) (entry_of s0 seen ∷ [])
          ∙ ap (λ b. filter (is_of s) (filter p es) ++ cond b (entry_of s0 seen ∷ []) []) (other-way s0 s h)
          ∙ append-nil (filter (is_of s) (filter p es)) ∙ filter-twice (is_of s) p (is_of s) (of-one s0 s h) es
          ∙ each s seen_now (sym (is s ∙ ap (λ b. cond b (Some seen) (f s)) h) ∙ at_s)
    ] refl

-- each station keeps exactly one entry, if one is removed
pub each-without : (f g : Index) (s0 : Station) → IsIndexWith s0 None f g → (es : List Entry) → HasEach f es
    → HasEach g (filter (λ e. not (is_of s0 e)) es)
each-without f g s0 is es each s seen_now at_s =
    let p : Entry → Bool = λ e. not (is_of s0 e) in
    elim (is_same s0 s) as (λ b. is_same s0 s ≡ b → filter (is_of s) (filter p es) ≡ entry_of s seen_now ∷ []) [
      | true ↦ λ h. let n : None ≡ Some seen_now = sym (is s ∙ ap (λ b. cond b None (f s)) h) ∙ at_s in cc
      | false ↦ λ h.
          filter-twice (is_of s) p (is_of s) (of-one s0 s h) es
          ∙ each s seen_now (sym (is s ∙ ap (λ b. cond b None (f s)) h) ∙ at_s)
    ] refl

-- a station that is not in the index has no entry
pub of-none : (f : Index) (s0 : Station) → f s0 ≡ None → (at : ℕ) (xs : List Station)
    → filter (is_of s0) (entries_from f at xs) ≡ []
of-none f s0 none at [] = refl
of-none f s0 none at (s ∷ ss) =
    filter-append (is_of s0) (entry_at at s (f s)) (entries_from f (place_after at 1) ss)
    ∙ ap (λ zs. zs ++ filter (is_of s0) (entries_from f (place_after at 1) ss)) (
    elim (is_same s0 s) as (λ b. is_same s0 s ≡ b → filter (is_of s0) (entry_at at s (f s)) ≡ []) [
      | true ↦ λ h. ap (λ o. filter (is_of s0) (entry_at at s o)) (ap f (sym (same_station s0 s h)) ∙ none)
      | false ↦ λ h. entry-dropped (is_of s0) s (λ seen. h) at (f s)
    ] refl)
    ∙ of-none f s0 none (place_after at 1) ss

-- the entries of a station are the one that the index has
pub entries-of : (f : Index) (at : ℕ) (xs : List Station) → HasEach f (entries_from f at xs) → (s : Station)
    → filter (is_of s) (entries_from f at xs) ≡ option_to_list (option_map (entry_of s) (f s))
entries-of f at xs each s =
    elim (f s) as (λ o. f s ≡ o → filter (is_of s) (entries_from f at xs) ≡ option_to_list
    (option_map (entry_of s) o)) [
      | None ↦ λ h. of-none f s h at xs
      | Some seen ↦ λ h. each s seen h
    ] refl

-- the number of entries without those of a station, and with one more
pub one-less : (f : Index) (s : Station) (seen : LastSeen) (es : List Entry) → HasEach f es → f s ≡ Some seen
    → length (filter (λ e. not (is_of s e)) es) + 1 ≡ length es
one-less f s seen es each is = omega (arith, parted (is_of s) es, ap length (each s seen is))

pub one-more : (f : Index) (at : ℕ) (xs : List Station) (s : Station) (e : Entry) → HasEach f (entries_from f at xs)
    → length (filter (λ e. not (is_of s e)) (entries_from f at xs) ++ e ∷ []) ≡ length (entries_from f at xs) + cond
    (is_some (f s)) 0 1
one-more f at xs s e each =
    let p : Entry → Bool = λ e. not (is_of s e) in
    let es = entries_from f at xs in
    elim (f s) as (λ o. f s ≡ o → length (filter p es ++ e ∷ []) ≡ length es + cond (is_some o) 0 1) [
      | None ↦ λ h. omega (
        arith,
        length-append (filter p es) (e ∷ []),
        parted (is_of s) es,
        ap length
            (of-none f s h at xs),
      )
      | Some seen ↦ λ h. omega (
        arith,
        length-append (filter p es) (e ∷ []),
        parted (is_of s) es,
        ap length
            (each s seen h),
      )
    ] refl

-- equal lists have equal first elements
pub first-part : {X : Type 0} {a b : X} {xs ys : List X} → a ∷ xs ≡ b ∷ ys → a ≡ b
first-part k = Some-injective (ap (λ zs. slice_get zs 0) k)

-- without a port, all entries stay
pub all_stay : (es : List Entry) → filter (stays None) es ≡ es
all_stay [] = refl
all_stay (e ∷ es) = ap (λ zs. e ∷ zs) (all_stay es)

-- the sighted entries of a station are the one that the index has
pub found-sighted : (f : Index) (at : ℕ) (xs : List Station) → HasEach f (entries_from f at xs) → (vid : ℕ) (mac : Mac)
    → filter (λ e. is_sighted vid mac.0 (sighting_of e)) (entries_from f at xs) ≡ option_to_list
    (option_map (entry_of (record { vid = vid; mac = mac })) (f (record { vid = vid; mac = mac })))
found-sighted f at xs each vid mac = sighted-of vid mac.0 (entries_from f at xs)
    ∙ entries-of f at xs each (record { vid = vid; mac = mac })

-- the station of an entry
abbrev pub station_in : Entry → Station
station_in e = record { vid = e.vid; mac = e.mac }

-- the index has the station of the first entry
head-known : (f : Index) (at : ℕ) (xs : List Station) (e : Entry) (es : List Entry) → entries_from f at xs ≡ e ∷ es
    → (seen : LastSeen) × (f (station_in e) ≡ Some seen)
head-known f at [] e es h = let n : 0 ≡ suc (length es) = ap length h in cc
head-known f at (s ∷ ss) e es h =
    elim (f s) as (λ o. f s ≡ o → entry_at at s o ++ entries_from f (place_after at 1) ss ≡ e ∷ es → (seen : LastSeen)
    × (f (station_in e) ≡ Some seen)) [
      | None ↦ λ is k. head-known f (place_after at 1) ss e es k
      | Some seen ↦ λ is.
          elim (at == seen.at) as (λ b. cond b (entry_of s seen ∷ []) [] ++ entries_from f (place_after at 1) ss ≡ e
          ∷ es → (seen : LastSeen) × (f (station_in e) ≡ Some seen)) [
            | true ↦ λ k. (seen, ap (λ x. f (station_in x)) (sym (first-part k)) ∙ is)
            | false ↦ λ k. head-known f (place_after at 1) ss e es k
          ]
    ] refl h

first-rest : {X : Type 0} (xs : List X) (x : X) → Some x ≡ slice_get xs 0 → xs ≡ x ∷ drop 1 xs
first-rest [] x h = cc
first-rest (y ∷ ys) x h = ap (λ z. z ∷ ys) (sym (Some-injective h))

-- removing the first entry's station from the index drops the first entry
pub first-known : (f : Index) (at : ℕ) (xs : List Station) (e : Entry) → Some e ≡ slice_get (entries_from f at xs) 0
    → (seen : LastSeen) × (f (station_in e) ≡ Some seen)
first-known f at xs e h = head-known f at xs e (drop 1 (entries_from f at xs)) (first-rest (entries_from f at xs) e h)

pub less-first : (f : Index) (at : ℕ) (xs : List Station) (e : Entry) → HasEach f (entries_from f at xs)
    → Some e ≡ slice_get (entries_from f at xs) 0
    → filter (λ x. not (is_of (station_in e) x)) (entries_from f at xs) ≡ drop 1 (entries_from f at xs)
less-first f at xs e each h =
    let s = station_in e in
    let es = entries_from f at xs in
    let parts = first-rest es e h in
    let known = first-known f at xs e h in
    let mine : is_of s e ≡ true = itself s in
    let none : filter (is_of s) (drop 1 es) ≡ []
    = ap (drop 1) (ap (λ b. cond b (e ∷ filter (is_of s) (drop 1 es)) (filter (is_of s) (drop 1 es))) (sym mine) ∙ ap
    (filter (is_of s)) (sym parts) ∙ each s known.0 known.1) in
    ap (filter (λ x. not (is_of s x))) parts
    ∙ ap (λ b. cond (not b) (e ∷ filter (λ x. not (is_of s x)) (drop 1 es))
    (filter (λ x. not (is_of s x)) (drop 1 es))) mine
    ∙ none-pass (is_of s) (drop 1 es) none

-- a change at one station adds at most one station to the index
pub one_at_most : (o : Option LastSeen) → cond {A = ℕ} (is_some o) 0 1 ≤ 1
one_at_most None = omega arith
one_at_most (Some seen) = omega arith
