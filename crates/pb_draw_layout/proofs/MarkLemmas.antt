-- The facts of marks, one after the other.
use Rattle.std.proofs.Common.{◌≡◌, ◌<◌, ◌≤◌, ◌+◌, ℕ, Bool, true, false, ◌||◌, List, [], ◌∷◌, ◌++◌, map, drop}
use Rattle.std.proofs.Common.{length, sym, ap, ◌∙◌, append_assoc}
use Rattle.std.specs.List.{list_any}
use Rattle.std.proofs.lemmas.List.{map_push, drop_all}
use Rattle.pb_lan.specs.Numbering.{numbers_from}
use Rattle.pb_names.proofs.TextLemmas.{numbers_step}

-- the facts so far, then those of the numbers from here on, are the facts of all: one turn of the loops over marks
pub marks_more : {X M F : Type 0} (facts : M → F) (f : ℕ → F) (xs : List X) (k : ℕ) (marks more : List M) (m : M)
    (all : List F) → k < length xs
    → more ≡ marks ++ m ∷ [] → facts m ≡ f (k + 1)
    → map facts marks ++ map f (numbers_from (k + 1) (drop k xs)) ≡ all
    → map facts more ++ map f (numbers_from (k + 1 + 1) (drop (k + 1) xs)) ≡ all
marks_more facts f xs k marks more m all within grown is so_far =
    let rest = map f (numbers_from (k + 1 + 1) (drop (k + 1) xs)) in
    ap (λ z. z ++ rest) (ap (map facts) grown ∙ map_push facts marks m ∙ ap (λ y. map facts marks ++ y ∷ []) is)
    ∙ append_assoc (map facts marks) (f (k + 1) ∷ []) rest
    ∙ sym (ap (λ ns. map facts marks ++ map f ns) (numbers_step xs k (k + 1) within)) ∙ so_far

-- a number at which the test fails: one turn of a loop that looks for one at which it passes
pub any_more : {X : Type 0} (test : ℕ → Bool) (xs : List X) (k : ℕ) (all : Bool) → k < length xs → test (k + 1) ≡ false
    → list_any test (numbers_from (k + 1) (drop k xs)) ≡ all
    → list_any test (numbers_from (k + 1 + 1) (drop (k + 1) xs)) ≡ all
any_more test xs k all within fails so_far =
    let rest = list_any test (numbers_from (k + 1 + 1) (drop (k + 1) xs)) in
    sym (ap (λ b. b || rest) fails) ∙ sym (ap (list_any test) (numbers_step xs k (k + 1) within)) ∙ so_far

-- a number at which it passes
pub any_here : {X : Type 0} (test : ℕ → Bool) (xs : List X) (k : ℕ) (all : Bool) → k < length xs → test (k + 1) ≡ true
    → list_any test (numbers_from (k + 1) (drop k xs)) ≡ all → true ≡ all
any_here test xs k all within passes so_far =
    let rest = list_any test (numbers_from (k + 1 + 1) (drop (k + 1) xs)) in
    sym (ap (λ b. b || rest) passes) ∙ sym (ap (list_any test) (numbers_step xs k (k + 1) within)) ∙ so_far

-- no number is left
pub any_none : {X : Type 0} (test : ℕ → Bool) (xs : List X) (k : ℕ) (all : Bool) → length xs ≤ k
    → list_any test (numbers_from (k + 1) (drop k xs)) ≡ all → false ≡ all
any_none test xs k all past so_far =
    sym (ap (λ ys. list_any test (numbers_from (k + 1) ys)) (drop_all k xs past)) ∙ so_far
