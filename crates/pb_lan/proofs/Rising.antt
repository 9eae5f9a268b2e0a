-- Numbers in strictly ascending order, each compared with the next. For the loops of the check of plans.
use Rattle.std.proofs.Common.{◌≡◌, ℕ, ◌<◌, ◌≤◌, List, [], ◌∷◌, length, get_or, arith, suc, zero, ◌-◌}
use Rattle.pb_frame.specs.Lists.{Rises}
use Rattle.pb_frame.proofs.Lists.{All-imply}

-- the numbers at the first n places ascend strictly
abbrev pub RisesBelow : List ℕ → ℕ → Type 0
RisesBelow xs n = (k : ℕ) → suc k < n → get_or xs k 0 < get_or xs (suc k) 0

pub rises_on : (xs : List ℕ) → RisesBelow xs (length xs) → Rises xs
rises_on [] h = tt
rises_on (n ∷ []) h = (tt, tt)
rises_on (n ∷ m ∷ ns) h =
    let rest : Rises (m ∷ ns) = rises_on (m ∷ ns) (λ k l. h (suc k) (omega arith)) in
    let first : n < m = h 0 (omega arith) in
    ((first, All-imply (λ k. m < k) (λ k. n < k) (λ k h. omega (arith, first, h)) ns rest.0), rest)

rises_at : (xs : List ℕ) (k : ℕ) → suc k < length xs → Rises xs → get_or xs k 0 < get_or xs (suc k) 0
rises_at (n ∷ m ∷ ns) zero h r = r.0.0
rises_at (n ∷ m ∷ ns) (suc k) h r = rises_at (m ∷ ns) k (omega arith) r.1
rises_at _ k h r = absurd (omega arith)

-- numbers do not ascend if one is not above the one before it
pub falls_at : (xs : List ℕ) (k : ℕ) → 1 ≤ k → k < length xs → get_or xs k 0 ≤ get_or xs (k - 1) 0 → Rises xs → ⊥
falls_at xs zero some within falls r = omega (arith, some)
falls_at xs (suc k) some within falls r =
    let up = rises_at xs k within r in
    let same_place : suc k - 1 ≡ k = omega arith in
    let down = rw same_place at falls in
    omega arith
