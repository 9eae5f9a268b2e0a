-- Texts that are appended one after another.
use Rattle.std.proofs.Common.{◌≡◌, ◌<◌, ◌+◌, ℕ, zero, suc, List, [], ◌∷◌, ◌++◌, drop, flat_map, length, refl, sym, ap}
use Rattle.std.proofs.Common.{subst, ◌∙◌, arith, append_assoc}
use Rattle.pb_frame.proofs.TextLemmas.{with_piece}
use Rattle.pb_lan.specs.Numbering.{numbers_from}

-- the numbers from an index on are the next number and those after it
pub numbers_step : {X : Type 0} (xs : List X) (k n : ℕ) → k < length xs
    → numbers_from n (drop k xs) ≡ n ∷ numbers_from (n + 1) (drop (k + 1) xs)
numbers_step [] k n h = absurd (omega (arith, h))
numbers_step (x ∷ xs) zero n h = refl
numbers_step (x ∷ xs) (suc k) n h =
    let e : suc (k + 1) ≡ suc k + 1 = omega arith in
    subst (λ m. numbers_from n (drop k xs) ≡ n ∷ numbers_from (n + 1) (drop m (x ∷ xs))) e
    (numbers_step xs k n (omega (arith, h)))

-- the text so far, with that of the numbers that follow, is the text of all (used by loops over the parts of a plan)
pub numbers_more : {X : Type 0} (f : ℕ → List ℕ) (xs : List X) (k : ℕ) (out more all : List ℕ) → k < length xs
    → more ≡ out ++ f (k + 1)
    → out ++ flat_map f (numbers_from (k + 1) (drop k xs)) ≡ all
    → more ++ flat_map f (numbers_from (k + 1 + 1) (drop (k + 1) xs)) ≡ all
numbers_more f xs k out more all within grown so_far =
    let rest = flat_map f (numbers_from (k + 1 + 1) (drop (k + 1) xs)) in
    ap (λ z. z ++ rest) grown ∙ append_assoc out (f (k + 1)) rest
    ∙ sym (ap (λ ns. out ++ flat_map f ns) (numbers_step xs k (k + 1) within)) ∙ so_far

-- three texts, appended one after another
pub join_three : (old a b c one two new : List ℕ) → one ≡ old ++ a → two ≡ one ++ b → new ≡ two ++ c
    → new ≡ old ++ (a ++ b ++ c)
join_three old a b c one two new e f g = with_piece old two new (a ++ b) c (with_piece old one two a b e f) g
