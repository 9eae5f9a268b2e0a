-- The entries of a log after its first place had its turn, for `turn` and `rotate`.
use Rattle.std.proofs.Common.{◌≡◌, ℕ, zero, suc, ◌^◌, ◌<◌, ◌≤◌, Bool, true, false, cond, not, nat_eq, Some, None}
use Rattle.std.proofs.Common.{List, [], ◌∷◌, ◌++◌, length, drop, refl, sym, ap, ◌∙◌, subst, arith, append-nil}
use Rattle.std.proofs.Common.{append_assoc, length-append}
use Rattle.pb_fdb.proofs.LogLemmas.{entries-put, entries-with, entry-dropped, place-below, misses-behind}
use Rattle.pb_fdb.proofs.LogLemmas.{entries-append, entry-here, first-part}
use Rattle.std.specs.declared.option.Option.{Option}
use Rattle.std.specs.List.{filter}
use Rattle.std.specs.Option.{option_eq}
use Rattle.pb_frame.proofs.Lists.{filter-append}
use Rattle.pb_frame.proofs.Things.{front-empty}
use Rattle.pb_fdb.specs.declared.entry.Entry.{Entry}
use Rattle.pb_fdb.specs.declared.station.LastSeen.{LastSeen}
use Rattle.pb_fdb.specs.declared.station.Station.{Station}
use Rattle.pb_fdb.specs.Journals.{is_of, entry_of, Index, IsIndexWith, place_after, entry_at, entries_from, HasEach}
use Rattle.pb_fdb.specs.Journals.{HasTurned, stays}
use Rattle.pb_fdb.proofs.StationLemmas.{itself, none-pass}

-- if a station's latest place is the first, it has no entry in any beginning of the remaining places
rest-none : (f : Index) (at : ℕ) (s : Station) (seen : LastSeen) (rest : List Station)
    → HasEach f (entries_from f at (s ∷ rest)) → f s ≡ Some seen → at ≡ seen.at
    → filter (is_of s) (entries_from f (place_after at 1) rest) ≡ []
rest-none f at s seen rest each is place =
    let whole : entries_from f at (s ∷ rest) ≡ entry_of s seen ∷ entries_from f (place_after at 1) rest =
    ap (λ zs. zs ++ entries_from f (place_after at 1) rest) (entry-here s seen at (f s) is place) in
    ap (drop 1) (
    ap (λ b. cond b (entry_of s seen ∷ filter (is_of s) (entries_from f (place_after at 1) rest))
    (filter (is_of s) (entries_from f (place_after at 1) rest))) (sym (itself s))
    ∙ ap (filter (is_of s)) (sym whole) ∙ each s seen is)

front-none : (f : Index) (at : ℕ) (s : Station) (front back : List Station) → at < 2 ^ 64
    → filter (is_of s) (entries_from f at (front ++ back)) ≡ [] → filter (is_of s) (entries_from f at front) ≡ []
front-none f at s front back below h =
    front-empty (filter (is_of s) (entries_from f at front))
    (filter (is_of s) (entries_from f (place_after at (length front)) back)) (
    sym (filter-append (is_of s) (entries_from f at front) (entries_from f (place_after at (length front)) back))
    ∙ ap (filter (is_of s)) (sym (entries-append f at front back below)) ∙ h)

-- the case of an entry that is removed
pub turned-gone : (keep : Entry → Bool) (f g : Index) (at : ℕ) (s : Station) (seen : LastSeen) (rest : List Station)
    → HasEach f (entries_from f at (s ∷ rest)) → f s ≡ Some seen → at ≡ seen.at
    → keep (entry_of s seen) ≡ false → IsIndexWith s None f g → HasTurned keep f g at s rest rest
turned-gone keep f g at s seen rest each is place goes without =
    let next = place_after at 1 in
    let rest_none = rest-none f at s seen rest each is place in
    let dropped : filter keep (entry_at at s (f s)) ≡ [] = ap (filter keep) (entry-here s seen at (f s) is place)
    ∙ ap (λ b. cond b (entry_of s seen ∷ []) []) goes in
    let same : (front : List Station) → filter (is_of s) (entries_from f next front) ≡ []
    → entries_from g next front ≡ entries_from f next front
    = λ front none. entries-with f g s None without next front refl
    ∙ none-pass (is_of s) (entries_from f next front) none in record {
      kept = [];
      log_is = sym (append-nil rest);
      kept_count = sym (ap length dropped);
      entries = same rest rest_none
          ∙ sym (ap (λ zs. entries_from f next rest ++ zs) dropped ∙ append-nil (entries_from f next rest));
      fronts = λ front back parts. same front
          (front-none f next s front back (place-below at 1)
          (ap (λ zs. filter (is_of s) (entries_from f next zs)) (sym parts) ∙ rest_none));
    }

-- the case of an entry that is moved to the end
pub turned-last : (keep : Entry → Bool) (f g : Index) (at : ℕ) (s : Station) (seen new : LastSeen)
    (rest : List Station) → HasEach f (entries_from f at (s ∷ rest)) → f s ≡ Some seen → at ≡ seen.at
    → keep (entry_of s seen) ≡ true → IsIndexWith s (Some new) f g → entry_of s new ≡ entry_of s seen
    → new.at ≡ place_after (place_after at 1) (length rest) → length rest < 2 ^ 64
    → HasTurned keep f g at s rest (rest ++ s ∷ [])
turned-last keep f g at s seen new rest each is place stay with_new same_entry behind fits =
    let next = place_after at 1 in
    let rest_none = rest-none f at s seen rest each is place in
    let kept_one : filter keep (entry_at at s (f s)) ≡ entry_of s seen ∷ [] =
    ap (filter keep) (entry-here s seen at (f s) is place) ∙ ap (λ b. cond b (entry_of s seen ∷ []) []) stay in
    record {
      kept = s ∷ [];
      log_is = refl;
      kept_count = sym (ap length kept_one);
      entries =
          entries-put f g s new next rest with_new (place-below at 1) fits behind
          ∙ ap (λ zs. zs ++ entry_of s new ∷ []) (none-pass (is_of s) (entries_from f next rest) rest_none)
          ∙ ap (λ e. entries_from f next rest ++ e ∷ []) same_entry
          ∙ sym (ap (λ zs. entries_from f next rest ++ zs) kept_one);
      fronts = λ front back parts.
          let none = front-none f next s front back (place-below at 1)
          (ap (λ zs. filter (is_of s) (entries_from f next zs)) (sym parts) ∙ rest_none) in
          let shorter : length front ≤ length rest = omega (arith, ap length parts, length-append front back) in
          entries-with f g s (Some new) with_new next front
          (misses-behind new next (length front) (length rest) (place-below at 1) shorter fits behind)
          ∙ none-pass (is_of s) (entries_from f next front) none;
    }

-- without its station, the entries are those after the first place
past-first : (f : Index) (at : ℕ) (s : Station) (rest : List Station)
    → filter (λ e. not (is_of s e)) (entries_from f at (s ∷ rest)) ≡ filter (λ e. not (is_of s e))
    (entries_from f (place_after at 1) rest)
past-first f at s rest =
    filter-append (λ e. not (is_of s e)) (entry_at at s (f s)) (entries_from f (place_after at 1) rest)
    ∙ ap (λ zs. zs ++ filter (λ e. not (is_of s e)) (entries_from f (place_after at 1) rest))
    (entry-dropped (λ e. not (is_of s e)) s (λ any. ap not (itself s)) at (f s))

-- the entries after the turn of the first place, if its entry is removed
pub gone-entries : (f g : Index) (at : ℕ) (s : Station) (seen : LastSeen) (rest : List Station)
    → HasEach f (entries_from f at (s ∷ rest)) → f s ≡ Some seen → at ≡ seen.at → IsIndexWith s None f g
    → entries_from g (place_after at 1) rest ≡ filter (λ e. not (is_of s e)) (entries_from f at (s ∷ rest))
gone-entries f g at s seen rest each is place without =
    entries-with f g s None without (place_after at 1) rest refl ∙ sym (past-first f at s rest)

-- the entries after the turn of the first place, if its entry is moved to the end
pub last-entries : (f g : Index) (at : ℕ) (s : Station) (seen new : LastSeen) (rest : List Station) → f s ≡ Some seen
    → at ≡ seen.at → IsIndexWith s (Some new) f g
    → new.at ≡ place_after (place_after at 1) (length rest) → length rest < 2 ^ 64
    → entries_from g (place_after at 1) (rest ++ s ∷ []) ≡ filter (λ e. not (is_of s e))
    (entries_from f at (s ∷ rest)) ++ entry_of s new ∷ []
last-entries f g at s seen new rest is place with_new behind fits =
    entries-put f g s new (place_after at 1) rest with_new (place-below at 1) fits behind
    ∙ ap (λ zs. zs ++ entry_of s new ∷ []) (sym (past-first f at s rest))

-- the same statement under other names of the first place and the remaining ones
pub turned-as : (keep : Entry → Bool) (f g : Index) (at : ℕ) (a b : Station) (xs ys log : List Station)
    → HasTurned keep f g at a xs log → a ∷ xs ≡ b ∷ ys → HasTurned keep f g at b ys log
turned-as keep f g at a b xs ys log t k = subst (λ x. HasTurned keep f g at x ys log) (first-part k)
    (subst (λ zs. HasTurned keep f g at a zs log) (ap (drop 1) k) t)

-- an entry at the port is removed, and any other stays
pub goes-at : (port : Option ℕ) (e : Entry) → option_eq nat_eq port (Some e.port) ≡ true → stays port e ≡ false
goes-at None e h = cc
goes-at (Some p) e h = ap not h

pub stays-at : (port : Option ℕ) (e : Entry) → option_eq nat_eq port (Some e.port) ≡ false → stays port e ≡ true
stays-at None e h = refl
stays-at (Some p) e h = ap not h

-- cancelling a common front of two lists
append-cancel : {X : Type 0} (xs ys zs : List X) → xs ++ ys ≡ xs ++ zs → ys ≡ zs
append-cancel [] ys zs h = h
append-cancel (x ∷ xs) ys zs h = append-cancel xs ys zs (ap (drop 1) h)

-- an index splits a list
pub split : {X : Type 0} (xs : List X) (i : ℕ) → i < length xs → (x : X) × (drop i xs ≡ x ∷ drop (suc i) xs)
split [] i h = absurd (omega arith)
split (x ∷ xs) zero h = (x, refl)
split (x ∷ xs) (suc i) h = let r = split xs i (omega arith) in (r.0, r.1)

-- one more turn of the loop in `rotate`: places that had their turn are followed by those that did not
pub turned-on : (keep : Entry → Bool) (f g : Index) (at : ℕ) (s : Station) (rest behind log : List Station)
    (gone all : List Entry) (t : HasTurned keep f g at s (rest ++ behind) log)
    → all ≡ gone ++ entries_from f at (s ∷ rest)
    → entries_from f at (s ∷ (rest ++ behind)) ≡ entries_from f at (s ∷ rest) ++ filter keep gone
    → length behind ≡ length (filter keep gone)
    → (log ≡ rest ++ (behind ++ t.kept))
    × (all ≡ (gone ++ entry_at at s (f s)) ++ entries_from g (place_after at 1) rest)
    × (entries_from g (place_after at 1) log ≡ entries_from g (place_after at 1) rest ++ filter keep
    (gone ++ entry_at at s (f s)))
    × (length (behind ++ t.kept) ≡ length (filter keep (gone ++ entry_at at s (f s))))
turned-on keep f g at s rest behind log gone all t whole entries count =
    let next = place_after at 1 in
    let here = entry_at at s (f s) in
    let front = t.fronts rest behind refl in
    let later : entries_from f next (rest ++ behind) ≡ entries_from f next rest ++ filter keep gone
    = append-cancel here (entries_from f next (rest ++ behind)) (entries_from f next rest ++ filter keep gone)
    (entries ∙ append_assoc here (entries_from f next rest) (filter keep gone)) in (
      t.log_is ∙ append_assoc rest behind t.kept,
      whole ∙ sym (append_assoc gone here (entries_from f next rest)) ∙ ap (λ zs. (gone ++ here) ++ zs) (sym front),
      t.entries ∙ ap (λ zs. zs ++ filter keep here) later ∙ append_assoc (entries_from f next rest) (filter keep gone)
          (filter keep here)
          ∙ ap (λ zs. zs ++ (filter keep gone ++ filter keep here)) (sym front)
          ∙ ap (λ zs. entries_from g next rest ++ zs) (sym (filter-append keep gone here)),
      omega (
        arith,
        length-append behind t.kept,
        count,
        t.kept_count,
        ap length (filter-append keep gone here),
        length-append (filter keep gone) (filter keep here),
      ),
    )
