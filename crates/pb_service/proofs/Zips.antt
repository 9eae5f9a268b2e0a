-- Tables paired with what they describe.
use Rattle.std.proofs.Common.{◌≡◌, ℕ, ◌+◌, ◌<◌, ◌≤◌, Bool, true, List, [], ◌∷◌, ◌++◌, length, get_or, map, take, Bor}
use Rattle.std.proofs.Common.{inl, inr}
use Rattle.std.proofs.lemmas.Bool.{cases_Bool, false≢true}
use Rattle.std.proofs.lemmas.List.{take_more, take_all, take-map}
use Rattle.std.proofs.lemmas.Slice.Zip.{all_zipped_more}
use Rattle.std.specs.List.{AllZip, list_any}
use Rattle.toml.specs.Data.{Members}
use Rattle.toml.specs.View.{table_view}
use Rattle.pb_service.specs.declared.section.Section.{Section}
use Rattle.pb_service.specs.Keys.{SomeOf}
use Rattle.pb_service.specs.Told.{rows_of}
use Rattle.pb_service.proofs.Refusing.{Table}

-- the pairing with one more table
pub zip_next : {A B : Type 0} (R : A → B → Type 0) (xs : List A) (i : ℕ) (d x : A) (ys new : List B) (y : B)
    → i < length xs → x ≡ get_or xs i d → AllZip R (take i xs) ys → R x y
    → new ≡ ys ++ y ∷ [] → AllZip R (take (i + 1) xs) new
zip_next R xs i d x ys new y h is z r e = rw (take_more xs i d h, e)
    (all_zipped_more R (take i xs) ys (get_or xs i d) y z (rw is at r))

zip_map : {A B C : Type 0} (R : C → B → Type 0) (f : A → C) (xs : List A) (ys : List B)
    → AllZip (λ x y. R (f x) y) xs ys → AllZip R (map f xs) ys
zip_map R f [] [] z = tt
zip_map R f [] (y ∷ ys) z = absurd z
zip_map R f (x ∷ xs) [] z = absurd z
zip_map R f (x ∷ xs) (y ∷ ys) z = (z.0, zip_map R f xs ys z.1)

-- the pairing with all tables of an array, once all are read
pub zip_all : {X : Type 0} (R : Members → X → Type 0) (document : Members) (section : Section)
    (rows : List (Bor Table)) (n : ℕ) (xs : List X) → length rows ≤ n
    → map (λ r. table_view r.now) rows ≡ rows_of document section
    → AllZip (λ r x. R (table_view r.now) x) (take n rows) xs → AllZip R (rows_of document section) xs
zip_all R document section rows n xs h e z =
    let whole = rw (take_all n rows h) at z in
    rw (← e) (zip_map R (λ r. table_view r.now) rows xs whole)

zip_some : {A B : Type 0} (R : A → B → Type 0) (P : A → Type 0) (p : B → Bool) (xs : List A) (ys : List B)
    → ((x : A) (y : B) → R x y → p y ≡ true → P x) → AllZip R xs ys
    → list_any p ys ≡ true → SomeOf P xs
zip_some R P p [] [] f z h = absurd (false≢true h)
zip_some R P p [] (y ∷ ys) f z h = absurd z
zip_some R P p (x ∷ xs) [] f z h = absurd z
zip_some R P p (x ∷ xs) (y ∷ ys) f z h =
    elim (cases_Bool (p y)) [
      | inl this ↦ inl (f x y z.0 this)
      | inr other ↦ inr (zip_some R P p xs ys f z.1 (rw other at h))
    ]

some_map : {A B : Type 0} (P : B → Type 0) (f : A → B) (xs : List A) → SomeOf (λ x. P (f x)) xs → SomeOf P (map f xs)
some_map P f [] h = absurd h
some_map P f (x ∷ xs) (inl h) = inl h
some_map P f (x ∷ xs) (inr h) = inr (some_map P f xs h)

-- a test that an earlier thing passes gives the fact of its table (used for addresses and VIDs that occur twice)
pub earlier : {X : Type 0} (R : Members → X → Type 0) (P : Members → Type 0) (p : X → Bool) (document : Members)
    (section : Section) (rows : List (Bor Table)) (i : ℕ) (xs : List X)
    → map (λ r. table_view r.now) rows ≡ rows_of document section
    → ((row : Members) (x : X) → R row x → p x ≡ true → P row)
    → AllZip (λ r x. R (table_view r.now) x) (take i rows) xs → list_any p xs ≡ true
    → SomeOf P (take i (rows_of document section))
earlier R P p document section rows i xs e f z h =
    rw (← e, take-map (λ r. table_view r.now) i rows)
    (some_map P (λ r. table_view r.now) (take i rows)
    (zip_some (λ r x. R (table_view r.now) x) (λ r. P (table_view r.now)) p (take i rows) xs
    (λ r x. f (table_view r.now) x) z h))
