-- Either nothing waits, or some place can take a step.
use Rattle.std.proofs.Common.{◌≡◌, ◌⊎◌, inl, inr, ℕ, zero, suc, Some, List, [], ◌∷◌, refl}
use Rattle.std.proofs.Common.{subst, slice_get}
use Rattle.pb_frame.proofs.Lists.{Some-injective}
use Rattle.pb_lan.specs.Numbering.{numbered}
use Rattle.pb_standstill.proofs.Meetings.{empty_or_not}
use Rattle.pb_standstill.specs.Waits.{HasSome}

-- both hold, or there is a goal
pub both : {A B Goal : Type 0} → A ⊎ Goal → B ⊎ Goal → (A × B) ⊎ Goal
both (inr goal) _ = inr goal
both (inl a) (inr goal) = inr goal
both (inl a) (inl b) = inl (a, b)

-- what follows, or there is a goal
pub then_or : {A B Goal : Type 0} → (A → B) → A ⊎ Goal → B ⊎ Goal
then_or f (inl a) = inl (f a)
then_or f (inr goal) = inr goal

-- a list is empty, or leads to a goal
pub empty_or : {X Goal : Type 0} (xs : List X) → (HasSome xs → Goal) → (xs ≡ []) ⊎ Goal
empty_or {X} {Goal} xs moves = by (empty_or_not xs)
  where
    by : (xs ≡ []) ⊎ HasSome xs → (xs ≡ []) ⊎ Goal
    by (inl h) = inl h
    by (inr h) = inr (moves h)

-- a property holds of each entry of a list, or there is a goal
at_each : {X Goal : Type 0} (P : ℕ → X → Type 0) (xs : List X)
    → ((n : ℕ) (x : X) → slice_get xs n ≡ Some x → P n x ⊎ Goal)
    → ((n : ℕ) (x : X) → slice_get xs n ≡ Some x → P n x) ⊎ Goal
at_each P [] h = inl (λ n x e. cc)
at_each {X} {Goal} P (y ∷ ys) h = by (h 0 y refl) (at_each (λ n. P (suc n)) ys (λ n x e. h (suc n) x e))
  where
    each : P 0 y → ((n : ℕ) (x : X) → slice_get ys n ≡ Some x → P (suc n) x) → (n : ℕ) (x : X)
        → slice_get (y ∷ ys) n ≡ Some x → P n x
    each p ps zero x e = subst (P 0) (Some-injective e) p
    each p ps (suc n) x e = ps n x e

    by : P 0 y ⊎ Goal → ((n : ℕ) (x : X) → slice_get ys n ≡ Some x → P (suc n) x) ⊎ Goal
        → ((n : ℕ) (x : X) → slice_get (y ∷ ys) n ≡ Some x → P n x) ⊎ Goal
    by (inr goal) _ = inr goal
    by (inl p) (inr goal) = inr goal
    by (inl p) (inl ps) = inl (each p ps)

-- and so for entries by their number
pub each_or : {X Goal : Type 0} (P : ℕ → X → Type 0) (xs : List X)
    → ((n : ℕ) (x : X) → numbered xs n ≡ Some x → P n x ⊎ Goal)
    → ((n : ℕ) (x : X) → numbered xs n ≡ Some x → P n x) ⊎ Goal
each_or {X} {Goal} P xs h = then_or by (at_each (λ n. P (suc n)) xs (λ n x e. h (suc n) x e))
  where
    by : ((n : ℕ) (x : X) → slice_get xs n ≡ Some x → P (suc n) x) → (n : ℕ) (x : X) → numbered xs n ≡ Some x → P n x
    by all zero x e = cc
    by all (suc n) x e = all n x e
