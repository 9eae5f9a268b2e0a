-- The numbers of names (used by `numbers` and `Names::link`).
use Rattle.std.proofs.Common.{◌≡◌, ℕ, suc, ◌+◌, ◌<◌, ◌≤◌, Bool, true, false, cond, List, [], ◌∷◌, length, drop}
use Rattle.std.proofs.Common.{get_or, map, refl, ap, arith, Option, Some, unwrap_or}
use Rattle.std.proofs.lemmas.List.{drop_more}
use Rattle.pb_lan.specs.Events.{number_of}

cond-within : (b : Bool) (m n most : ℕ) → m ≤ most → n ≤ most → cond b m n ≤ most
cond-within true m n most h k = h
cond-within false m n most h k = k

-- a number is at most that of the last thing
pub number_of-few : {X : Type 0} (test : X → Bool) (k : ℕ) (xs : List X) → number_of test (suc k) xs ≤ k + length xs
number_of-few test k [] = omega arith
number_of-few test k (x ∷ xs) =
    let next : suc k + 1 ≡ suc (suc k) = omega arith in
    let rest : number_of test (suc k + 1) xs ≤ k + suc (length xs) =
    rw next (let more = number_of-few test (suc k) xs in omega arith) in
    cond-within (test x) (suc k) (number_of test (suc k + 1) xs) (k + suc (length xs)) (omega arith) rest

-- the number of a thing is that of its image in the mapped list
pub number_of-map : {X Y : Type 0} (f : X → Y) (test : Y → Bool) (k : ℕ) (xs : List X)
    → number_of test k (map f xs) ≡ number_of (λ x. test (f x)) k xs
number_of-map f test k [] = refl
number_of-map f test k (x ∷ xs) = ap (λ n. cond (test (f x)) k n) (number_of-map f test (k + 1) xs)

-- the search from an index tests the thing there, and goes on after it
pub number_of-from : {X : Type 0} (test : X → Bool) (xs : List X) (i : ℕ) (d : X) → i < length xs
    → number_of test (i + 1) (drop i xs) ≡ cond (test (get_or xs i d)) (i + 1)
    (number_of test (i + 1 + 1) (drop (i + 1) xs))
number_of-from test xs i d h = ap (λ z. number_of test (i + 1) z) (drop_more xs i d h)

pub unwrap_or-cond : (b : Bool) (n : ℕ) (o : Option ℕ) → unwrap_or (cond b (Some n) o) 0 ≡ cond b n (unwrap_or o 0)
unwrap_or-cond true n o = refl
unwrap_or-cond false n o = refl
