-- Stations, and their entries.
use Rattle.std.proofs.Common.{◌≡◌, ℕ, suc, ◌+◌, ◌==◌, ◌&&◌, Bool, true, false, cond, not, List, [], ◌∷◌, length, refl}
use Rattle.std.proofs.Common.{sym, ap, ◌∙◌, arith}
use Rattle.std.proofs.lemmas.Bool.{eqb-true}
use Rattle.std.specs.List.{filter}
use Rattle.std.specs.Cmp.Derive.{both_true}
use Rattle.pb_frame.proofs.Lists.{and-left, and-right, same-one, same-self, eqb-refl, true-false, false-unless}
use Rattle.pb_frame.proofs.Lists.{filter-same}
use Rattle.pb_frame.specs.Admission.{same}
use Rattle.pb_frame.specs.Stations.{is_sighted}
use Rattle.pb_frame.proofs.Things.{eqb-symm}
use Rattle.pb_fdb.proofs.EntryLemmas.{same-symm}
use Rattle.pb_fdb.specs.declared.entry.Entry.{Entry}
use Rattle.pb_fdb.specs.declared.station.Station.{Station}
use Rattle.pb_fdb.specs.Entries.{sighting_of}
use Rattle.pb_fdb.specs.Journals.{is_same, is_of}

-- the station with these parts
abbrev pub station_of : ℕ → List ℕ → Station
station_of vid mac = record { vid = vid; mac = record { 0 = mac } }

-- stations with the same parts are equal
pub same_station : (a b : Station) → is_same a b ≡ true → a ≡ b
same_station a b h =
    ap (λ v. station_of v a.mac.0) (eqb-true a.vid b.vid (and-left _ _ h))
    ∙ ap (λ m. station_of b.vid m) (same-one a.mac.0 b.mac.0 (and-right (a.vid == b.vid) _ h))

pub itself : (s : Station) → is_same s s ≡ true
itself s = both_true (eqb-refl s.vid) (same-self s.mac.0)

-- the order of the operands does not matter to different stations
pub other-way : (a b : Station) → is_same a b ≡ false → is_same b a ≡ false
other-way a b h = false-unless (is_same b a)
    (λ e. true-false (is_same a b) (ap (is_same a) (same_station b a e) ∙ itself a) h)

-- an entry belongs to one station only
pub of-one : (a b : Station) → is_same a b ≡ false → (e : Entry) → (not (is_of a e) && is_of b e) ≡ is_of b e
of-one a b h e =
    elim (is_of a e) as (λ t. is_of a e ≡ t → (not t && is_of b e) ≡ is_of b e) [
      | true ↦ λ mine. sym (false-unless (is_of b e) (λ theirs.
          let one : a ≡ b = same_station a (station_of e.vid e.mac.0) mine
          ∙ sym (same_station b (station_of e.vid e.mac.0) theirs) in
          true-false (is_same a b) (ap (is_same a) (sym one) ∙ itself a) h))
      | false ↦ λ not_mine. refl
    ] refl

-- the entries of a station are those that `is_sighted` finds
pub sighted-of : (vid : ℕ) (mac : List ℕ) (es : List Entry)
    → filter (λ e. is_sighted vid mac (sighting_of e)) es ≡ filter (is_of (station_of vid mac)) es
sighted-of vid mac es = filter-same (λ e. is_sighted vid mac (sighting_of e)) (is_of (station_of vid mac)) agree es
  where
    agree : (e : Entry) → is_sighted vid mac (sighting_of e) ≡ is_of (station_of vid mac) e
    agree e = ap (λ b. b && same e.mac.0 mac) (eqb-symm e.vid vid)
        ∙ ap (λ b. (vid == e.vid) && b) (same-symm e.mac.0 mac)

-- the elements that pass a test and those that fail it are all elements
pub parted : {X : Type 0} (p : X → Bool) (xs : List X)
    → length (filter p xs) + length (filter (λ x. not (p x)) xs) ≡ length xs
parted p [] = refl
parted p (x ∷ xs) =
    elim (p x) as (λ b. length (cond b (x ∷ filter p xs) (filter p xs)) + length
    (cond (not b) (x ∷ filter (λ x. not (p x)) xs) (filter (λ x. not (p x)) xs)) ≡ suc (length xs))
    [ true ↦ omega (arith, parted p xs) | false ↦ omega (arith, parted p xs) ]

-- if no element passes, all fail
pub none-pass : {X : Type 0} (p : X → Bool) (xs : List X) → filter p xs ≡ [] → filter (λ x. not (p x)) xs ≡ xs
none-pass p [] h = refl
none-pass p (x ∷ xs) h =
    elim (p x) as (λ b. cond b (x ∷ filter p xs) (filter p xs) ≡ [] → cond (not b) (x ∷ filter (λ x. not (p x)) xs)
    (filter (λ x. not (p x)) xs) ≡ x ∷ xs) [
      | true ↦ λ e. let k : suc (length (filter p xs)) ≡ 0 = ap length e in cc
      | false ↦ λ e. ap (λ zs. x ∷ zs)
          (none-pass p xs e)
    ] h

-- no element that fails passes
pub none-left : {X : Type 0} (p : X → Bool) (xs : List X) → filter p (filter (λ x. not (p x)) xs) ≡ []
none-left p [] = refl
none-left p (x ∷ xs) =
    elim (p x) as (λ b. p x ≡ b → filter p
    (cond (not b) (x ∷ filter (λ x. not (p x)) xs) (filter (λ x. not (p x)) xs)) ≡ []) [
      | true ↦ λ e. none-left p xs
      | false ↦ λ e. ap
          (λ b. cond b (x ∷ filter p (filter (λ x. not (p x)) xs)) (filter p (filter (λ x. not (p x)) xs))) e
          ∙ none-left p xs
    ] refl
