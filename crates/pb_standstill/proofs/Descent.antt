-- In a rooted forest no walk that never turns back goes on for ever: it goes up for a while, and then only down.
use Rattle.std.proofs.Common.{◌≡◌, ◌⊎◌, inl, inr, ℕ, zero, suc, ◌+◌, ◌<◌, ◌≤◌, Some, Option, sym, ◌∙◌, arith}
use Rattle.pb_frame.proofs.Lists.{Some-injective}

-- the edge leads up from one of its vertices to the other
abbrev pub Leads : (ℕ → Option ℕ) → (ℕ → ℕ) → ℕ → ℕ → ℕ → Type 0
Leads up depth k x y =
    ((up x ≡ Some k) × (depth x ≡ depth y + 1)) ⊎ ((up y ≡ Some k) × (depth y ≡ depth x + 1))

-- the walk goes on: the edge is one of the forest, and another edge of the walk leaves its far vertex
pub record GoesOn (Way : ℕ → ℕ → ℕ → Type 0) (up : ℕ → Option ℕ) (depth : ℕ → ℕ) (k x y : ℕ) : Type 0 where
  pub leads : Leads up depth k x y
  pub edge : ℕ
  pub far : ℕ
  pub way : Way edge y far
  pub other : k ≡ edge → ⊥

-- each edge of the walk has a goal, or the walk goes on
pub record Walks (Way : ℕ → ℕ → ℕ → Type 0) (Goal : Type 0) : Type 0 where
  pub up : ℕ → Option ℕ
  pub depth : ℕ → ℕ
  pub greatest : ℕ
  pub bound : (x : ℕ) → depth x ≤ greatest
  pub next : (k x y : ℕ) → Way k x y → Goal ⊎ GoesOn Way up depth k x y

-- once it has gone down it goes down at each edge
down : {Way : ℕ → ℕ → ℕ → Type 0} {Goal : Type 0} (t : Walks Way Goal) (n k l y z : ℕ) → t.greatest < t.depth y + n
    → t.up y ≡ Some k → (k ≡ l → ⊥) → Way l y z → Goal
down t zero k l y z deep u other w = let most = t.bound y in absurd (omega (arith, deep, most))
down {Way} {Goal} t (suc n) k l y z deep u other w =
    by (λ m v way new up_there d. down t n l m z v (omega (arith, deep, d)) up_there new way) (t.next l y z w)
  where
    by : ((m v : ℕ) → Way m z v → (l ≡ m → ⊥) → t.up z ≡ Some l → t.depth z ≡ t.depth y + 1 → Goal)
        → Goal ⊎ GoesOn Way t.up t.depth l y z → Goal
    by deeper (inl goal) = goal
    by deeper (inr on) = by_edge on.leads
      where
        by_edge : Leads t.up t.depth l y z → Goal
        by_edge (inl h) = absurd (other (Some-injective (sym u ∙ h.0)))
        by_edge (inr h) = deeper on.edge on.far on.way on.other h.0 h.1

-- from each edge the walk comes to a goal
reaches : {Way : ℕ → ℕ → ℕ → Type 0} {Goal : Type 0} (t : Walks Way Goal) (n k x y : ℕ) → t.depth x < n → Way k x y
    → Goal
reaches t zero k x y deep w = absurd (omega (arith, deep))
reaches {Way} {Goal} t (suc n) k x y deep w =
    by (λ m v way d. reaches t n m y v (omega (arith, deep, d)) way) (t.next k x y w)
  where
    by : ((m v : ℕ) → Way m y v → t.depth x ≡ t.depth y + 1 → Goal) → Goal ⊎ GoesOn Way t.up t.depth k x y → Goal
    by higher (inl goal) = goal
    by higher (inr on) = by_edge on.leads
      where
        by_edge : Leads t.up t.depth k x y → Goal
        by_edge (inl h) = higher on.edge on.far on.way h.1
        by_edge (inr h) = down t (suc t.greatest) k on.edge y on.far (omega arith) h.0 on.other on.way

-- each edge of the walk leads to a goal
pub reached : {Way : ℕ → ℕ → ℕ → Type 0} {Goal : Type 0} (t : Walks Way Goal) (k x y : ℕ) → Way k x y → Goal
reached t k x y w = reaches t (t.depth x + 1) k x y (omega arith) w
