-- The number of the first item that passes a test.
use Rattle.std.proofs.Common.{◌≡◌, ℕ, suc, ◌+◌, ◌⊎◌, inl, inr, Bool, true, false, if◌then◌else◌, List, [], ◌∷◌, Some}
use Rattle.std.proofs.Common.{None, slice_get, refl, ◌∙◌, arith}
use Rattle.pb_frame.specs.Lists.{first}
use Rattle.pb_lan.specs.Events.{number_of}

-- the first item that passes a test has its number
pub number_of-cases : {X : Type 0} (test : X → Bool) (k : ℕ) (xs : List X)
    → ((number_of test k xs ≡ 0) × (first test xs ≡ None))
    ⊎ ((i : ℕ) × (x : X) × (number_of test k xs ≡ k + i) × (slice_get xs i ≡ Some x) × (first test xs ≡ Some x)
    × (test x ≡ true))
number_of-cases test k [] = inl (refl, refl)
number_of-cases {X} test k (x ∷ xs) =
    elim (test x) as (λ b. test x ≡ b →
    (((if b then k else number_of test (k + 1) xs) ≡ 0) × ((if b then Some x else first test xs) ≡ None))
    ⊎ ((i : ℕ) × (y : X) × ((if b then k else number_of test (k + 1) xs) ≡ k + i) × (slice_get (x ∷ xs) i ≡ Some y)
    × ((if b then Some x else first test xs) ≡ Some y) × (test y ≡ true))) [
      | true ↦ λ e. inr (0, x, omega arith, refl, refl, e)
      | false ↦ λ e. elim (number_of-cases test (k + 1) xs) [
        | inl none ↦ inl none
        | inr (i, y, n, g, f, t) ↦ inr (suc i, y, (let m : (k + 1) + i ≡ k + suc i = omega arith in n ∙ m), g, f, t)
      ]
    ] refl
