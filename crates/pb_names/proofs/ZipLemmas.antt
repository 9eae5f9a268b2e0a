-- Two lists, element by element, and their texts one after another.
use Rattle.std.proofs.Common.{◌≡◌, ◌≤◌, ℕ, zero, suc, ◌+◌, ◌<◌, List, [], ◌∷◌, ◌++◌}
use Rattle.std.proofs.Common.{length, map, drop, get_or, flat_map, min, refl, sym, ap, ◌∙◌, arith, append_assoc}
use Rattle.std.proofs.Common.{append-nil}
use Rattle.std.specs.List.{zip}

-- two lists zipped from an index on: the pair at the index, then the later ones
pub zip_there : {A B : Type 0} (xs : List A) (ys : List B) (i : ℕ) (d : A) (e : B) → i < length xs → i < length ys
    → zip (drop i xs) (drop i ys) ≡ (get_or xs i d, get_or ys i e) ∷ zip (drop (i + 1) xs) (drop (i + 1) ys)
zip_there [] ys i d e h g = absurd (omega (arith, h))
zip_there (x ∷ xs) [] i d e h g = absurd (omega (arith, g))
zip_there (x ∷ xs) (y ∷ ys) zero d e h g = refl
zip_there (x ∷ xs) (y ∷ ys) (suc i) d e h g =
    let next : suc (i + 1) ≡ suc i + 1 = omega arith in
    zip_there xs ys i d e (omega (arith, h)) (omega (arith, g))
    ∙ ap (λ n. (get_or xs i d, get_or ys i e) ∷ zip (drop n (x ∷ xs)) (drop n (y ∷ ys))) next

-- nothing is zipped after the end of one of them
zip-nil : {A B : Type 0} (xs : List A) (ys : List B) → ys ≡ [] → zip xs ys ≡ []
zip-nil [] ys e = refl
zip-nil (x ∷ xs) [] e = refl
zip-nil (x ∷ xs) (y ∷ ys) e = cc

pub zip_past : {A B : Type 0} (xs : List A) (ys : List B) (i : ℕ) → min (length xs) (length ys) ≤ i
    → zip (drop i xs) (drop i ys) ≡ []
zip_past [] [] zero h = refl
zip_past [] [] (suc i) h = refl
zip_past [] (y ∷ ys) zero h = refl
zip_past [] (y ∷ ys) (suc i) h = refl
zip_past (x ∷ xs) [] zero h = refl
zip_past (x ∷ xs) [] (suc i) h = zip-nil (drop i xs) [] refl
zip_past (x ∷ xs) (y ∷ ys) zero h = absurd (omega (arith, h))
zip_past (x ∷ xs) (y ∷ ys) (suc i) h = zip_past xs ys i (omega (arith, h))

-- one more text, and the texts of the later elements after it
pub text_more : {X : Type 0} (f : X → List ℕ) (start before now : List ℕ) (x : X) (these later all : List X)
    → these ≡ x ∷ later → now ≡ before ++ f x
    → before ++ flat_map f these ≡ start ++ flat_map f all → now ++ flat_map f later ≡ start ++ flat_map f all
text_more f start before now x these later all e g h =
    ap (λ z. z ++ flat_map f later) g ∙ append_assoc before (f x) (flat_map f later)
    ∙ ap (λ z. before ++ flat_map f z) (sym e) ∙ h

-- no text remains
pub text_end : {X : Type 0} (f : X → List ℕ) (start now : List ℕ) (these all : List X) → these ≡ []
    → now ++ flat_map f these ≡ start ++ flat_map f all
    → now ≡ start ++ flat_map f all
text_end f start now these all e h = sym (append-nil now) ∙ ap (λ z. now ++ flat_map f z) (sym e) ∙ h
