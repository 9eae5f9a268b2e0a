-- Two lists, element by element.
use Rattle.std.proofs.Common.{◌≡◌, ℕ, zero, suc, ◌+◌, ◌<◌, List, [], ◌∷◌, ◌++◌, Result, Ok, Err, IfOk}
use Rattle.std.proofs.Common.{MatchResult, map, length, take, get_or, sym, subst}
use Rattle.std.proofs.Common.{arith, append_assoc}
use Rattle.std.specs.List.{AllZip, Contains}

-- one more element at the end of both lists
pub zip_one_more : {A B : Type 0} (R : A → B → Type 0) (xs : List A) (i : ℕ) (d : A) (ys : List B) (y : B)
    → i < length xs → AllZip R (take i xs) ys → R (get_or xs i d) y
    → AllZip R (take (i + 1) xs) (ys ++ y ∷ [])
zip_one_more R [] i d ys y h a r = absurd (omega (arith, h))
zip_one_more R (x ∷ xs) zero d [] y h a r = (r, tt)
zip_one_more R (x ∷ xs) zero d (z ∷ zs) y h a r = absurd a
zip_one_more R (x ∷ xs) (suc i) d [] y h a r = absurd a
zip_one_more R (x ∷ xs) (suc i) d (z ∷ zs) y h a r =
    let next : suc (i + 1) ≡ suc i + 1 = omega arith in
    subst (λ n. AllZip R (take n (x ∷ xs)) ((z ∷ zs) ++ y ∷ [])) next
    (a.0, zip_one_more R xs i d zs y (omega (arith, h)) a.1 r)

-- a text of four parts, bracketed from the left or from the right
pub regroup_four : (a b c d : List ℕ) → ((a ++ b) ++ c) ++ d ≡ a ++ (b ++ (c ++ d))
regroup_four a b c d = simp append_assoc

-- four texts after another, as they are written and as they are defined
pub rejoin_four : (old a b c d : List ℕ) → (((old ++ a) ++ b) ++ c) ++ d ≡ old ++ (((a ++ b) ++ c) ++ d)
rejoin_four old a b c d = simp append_assoc

-- a text of six parts, bracketed from the left or from the right
pub regroup_six : (a b c d e f : List ℕ) → ((((a ++ b) ++ c) ++ d) ++ e) ++ f ≡ a ++ (b ++ (c ++ (d ++ (e ++ f))))
regroup_six a b c d e f = simp append_assoc

-- five texts after another, as they are written and as they are defined
pub rejoin_five : (old a b c d e : List ℕ)
    → ((((old ++ a) ++ b) ++ c) ++ d) ++ e ≡ old ++ ((((a ++ b) ++ c) ++ d) ++ e)
rejoin_five old a b c d e = simp append_assoc

-- a text of five parts after another, as it is written and as it is defined
pub rejoin : (old a n b l e : List ℕ) → ((old ++ (a ++ (n ++ b))) ++ l) ++ e ≡ old ++ ((((a ++ n) ++ b) ++ l) ++ e)
rejoin old a n b l e = simp append_assoc

-- seven texts after another, as they are written and as they are defined
pub rejoin_seven : (old a b c d e f g : List ℕ)
    → ((((((old ++ a) ++ b) ++ c) ++ d) ++ e) ++ f) ++ g ≡ old ++ ((((((a ++ b) ++ c) ++ d) ++ e) ++ f) ++ g)
rejoin_seven old a b c d e f g = simp append_assoc

-- the same of three
pub rejoin_three : (old a b c : List ℕ) → ((old ++ a) ++ b) ++ c ≡ old ++ ((a ++ b) ++ c)
rejoin_three old a b c = simp append_assoc

-- results that are all Ok have the relation with their arguments
zip_oks : {A B : Type 0} (E : Type 0) (R : A → B → Type 0) (xs : List A) (ys : List B)
    → AllZip (λ x (r : Result B E). IfOk r (R x)) xs (map Ok ys)
    → AllZip R xs ys
zip_oks E R [] [] a = tt
zip_oks E R [] (y ∷ ys) a = absurd a
zip_oks E R (x ∷ xs) [] a = absurd a
zip_oks E R (x ∷ xs) (y ∷ ys) a = (a.0, zip_oks E R xs ys a.1)

-- if each Ok of a list of results has the relation, so has each element of the collected list
pub gathered : {A B V E : Type 0} (R : A → B → Type 0) (items : V → List B) (xs : List A) (rs : List (Result B E))
    (r : Result V E)
    → AllZip (λ x b. IfOk b (R x)) xs rs → MatchResult r (λ v. (ys : List B) × (rs ≡ map Ok ys) × (items v ≡ ys))
    (λ e. Contains rs (Err e))
    → IfOk r (λ v. AllZip R xs (items v))
gathered {E = E} R items xs rs (Ok v) a (ys, e, i) =
    subst (AllZip R xs) (sym i) (zip_oks E R xs ys (subst (AllZip (λ x b. IfOk b (R x)) xs) e a))
gathered R items xs rs (Err e) a h = tt
