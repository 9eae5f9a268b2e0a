-- Two elements of a list at which a test passes, and the count of such elements.
use Rattle.std.proofs.Common.{◌≡◌, ◌≢◌, ◌<◌, ◌≤◌, ◌+◌, ℕ, zero, suc, Bool, true, false, cond, Some, List, [], ◌∷◌}
use Rattle.std.proofs.Common.{slice_get, refl, ap, subst, ◌∙◌, arith}
use Rattle.std.specs.List.{count_by, list_any}
use Rattle.pb_frame.proofs.Counting.{any-count, count-any, count_by-cons}
use Rattle.pb_frame.proofs.Lists.{All-placed, Some-injective, list_any-at, list_any-found}

-- the elements at two indices pass the test
pub record HasTwo {X : Type 0} (test : X → Bool) (xs : List X) : Type 0 where
  pub i : ℕ
  pub j : ℕ
  pub x : X
  pub y : X
  pub x_at : slice_get xs i ≡ Some x
  pub y_at : slice_get xs j ≡ Some y
  pub x_passes : test x ≡ true
  pub y_passes : test y ≡ true
  pub below : i < j

-- an element at which the test passes
pub any_where : {X : Type 0} (test : X → Bool) (xs : List X) → list_any test xs ≡ true
    → (k : ℕ) × (x : X) × (slice_get xs k ≡ Some x) × (test x ≡ true)
any_where test xs h =
    let found = list_any-found (λ x. (k : ℕ) × (slice_get xs k ≡ Some x)) test xs h (All-placed xs) in
    (found.1.0, found.0, found.1.1, found.2)

-- if the count is two or more, the elements at two indices pass
pub two_of : {X : Type 0} (test : X → Bool) (xs : List X) → 2 ≤ count_by test xs → HasTwo test xs
two_of test [] h = absurd (omega (arith, h))
two_of test (x ∷ xs) h =
    let c = count_by-cons test x xs in
    elim (test x) as (λ b. test x ≡ b → count_by test (x ∷ xs) ≡ cond b 1 0 + count_by test xs → HasTwo test (x ∷ xs)) [
      | true ↦ λ passes e.
          let more = any_where test xs (any-count test xs (omega (arith, h, e))) in
          record {
            i = 0;
            j = suc more.0;
            x = x;
            y = more.1;
            x_at = refl;
            y_at = more.2;
            x_passes = passes;
            y_passes = more.3;
            below = omega arith;
          }
      | false ↦ λ fails e.
          let two = two_of test xs (omega (arith, h, e)) in
          record {
            i = suc two.i;
            j = suc two.j;
            x = two.x;
            y = two.y;
            x_at = two.x_at;
            y_at = two.y_at;
            x_passes = two.x_passes;
            y_passes = two.y_passes;
            below = let less = two.below in omega (arith, less);
          }
    ] refl c

-- the first element and a later one pass
first-two : {X : Type 0} (test : X → Bool) (x : X) (xs : List X) → test x ≡ true → list_any test xs ≡ true
    → 2 ≤ count_by test (x ∷ xs)
first-two test x xs passes any =
    let c = subst (λ b. count_by test (x ∷ xs) ≡ cond b 1 0 + count_by test xs) passes (count_by-cons test x xs) in
    let more = count-any test xs any in
    omega (arith, c, more)

-- if the elements at two indices pass, the count is two or more
pub two_count : {X : Type 0} (test : X → Bool) (xs : List X) (i j : ℕ) (x y : X) → slice_get xs i ≡ Some x
    → slice_get xs j ≡ Some y → test x ≡ true → test y ≡ true → i ≢ j → 2 ≤ count_by test xs
two_count test [] i j x y at_x at_y p q apart = cc
two_count test (z ∷ zs) zero zero x y at_x at_y p q apart = absurd (apart refl)
two_count test (z ∷ zs) zero (suc j) x y at_x at_y p q apart =
    first-two test z zs (ap test (Some-injective at_x) ∙ p) (list_any-at test zs j y at_y q)
two_count test (z ∷ zs) (suc i) zero x y at_x at_y p q apart =
    first-two test z zs (ap test (Some-injective at_y) ∙ q) (list_any-at test zs i x at_x p)
two_count test (z ∷ zs) (suc i) (suc j) x y at_x at_y p q apart =
    let c = count_by-cons test z zs in
    let rest = two_count test zs i j x y at_x at_y p q (λ e. apart (ap suc e)) in
    omega (arith, c, rest)
