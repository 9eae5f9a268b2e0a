-- The items that a lane loses, and those of them that are still to come.
use Rattle.std.specs.Prelude.{◌≡◌, ℕ, ◌≤◌, Bool, false, List, [], ◌∷◌, drop, ◌==◌}
use Rattle.std.specs.List.{list_any, AllByRecursion}
use Rattle.pb_frame.specs.Lists.{Rises}

-- what callers see: the numbers of the items that are lost, and the count of items that were taken
pub record LossView : Type 0 where
  pub numbers : List ℕ
  pub taken : ℕ

-- the first number of the list is this one
abbrev pub is_first : List ℕ → ℕ → Bool
is_first [] number = false
is_first (k ∷ ks) number = k == number

-- the numbers from the index `next` on rise, and decide the loss of each item that is still to come
pub record IsNext (numbers : List ℕ) (next taken : ℕ) : Type 0 where
  pub rising : Rises (drop next numbers)
  pub coming : AllByRecursion (λ k. taken ≤ k) (drop next numbers)
  pub gone : (n : ℕ) → taken ≤ n → list_any (λ k. k == n) numbers ≡ list_any (λ k. k == n) (drop next numbers)
