-- The counts at the bridges of a graph, as links are added and removed.
use Rattle.std.proofs.Common.{◌≡◌, ◌≢◌, inl, inr, ℕ, zero, suc, ◌+◌, ◌*◌, ◌≤◌, ◌==◌, Some, None, Option, true}
use Rattle.std.proofs.Common.{false, cond, List, [], ◌∷◌, ◌++◌, slice_get, slice_set, length, refl, ap, arith}
use Rattle.pb_frame.proofs.Lists.{Some-injective, eqb-refl}
use Rattle.pb_frame.proofs.Things.{others_stay}
use Rattle.std.proofs.lemmas.Bool.{eqb-true}
use Rattle.pb_forest.specs.Graphs.{at, share, degree, index_sum, Joins, Meets}
use Rattle.pb_forest.specs.declared.graph.Ends.{Ends}

-- the value at the bridge itself
pub at-same : (b n : ℕ) → at b b n ≡ n
at-same b n = ap (λ t. cond t n 0) (eqb-refl b)

-- the value at another bridge
pub at-other : (b x n : ℕ) → b ≢ x → at b x n ≡ 0
at-other b x n h = elim (b == x) as (λ t. (b == x) ≡ t → cond t n 0 ≡ 0)
    [ true ↦ λ e. absurd (h (eqb-true b x e)) | false ↦ λ e. refl ] refl

-- a value of at least one is at the bridge itself
pub at-is : (b x n : ℕ) → 1 ≤ at b x n → b ≡ x
at-is b x n h = elim (b == x) as (λ t. (b == x) ≡ t → 1 ≤ cond t n 0 → b ≡ x)
    [ true ↦ λ e k. eqb-true b x e | false ↦ λ e k. absurd (omega (arith, k)) ] refl h

pub at-most : (b x n : ℕ) → at b x n ≤ n
at-most b x n = elim (b == x) as (λ t. cond t n 0 ≤ n) [ true ↦ omega arith | false ↦ omega arith ]

-- a value n is at most m times the value one, if n is at most m
pub at-times : (b x n m : ℕ) → n ≤ m → at b x n ≤ m * at b x 1
at-times b x n m h = elim (b == x) as (λ t. cond t n 0 ≤ m * cond t 1 0)
    [ true ↦ omega (arith, h) | false ↦ omega arith ]

pub share-most : (e : Option Ends) (x : ℕ) → share e x 1 ≤ 2
share-most None x = omega arith
share-most (Some ends) x = let a = at-most ends.a x 1 in let b = at-most ends.b x 1 in omega (arith, a, b)

pub share-times : (e : Option Ends) (x n m : ℕ) → n ≤ m → share e x n ≤ m * share e x 1
share-times None x n m h = omega arith
share-times (Some ends) x n m h = let a = at-times ends.a x n m h in let b = at-times ends.b x n m h in omega
    (arith, a, b)

-- a value n is n times the value one
at-scaled : (b x n : ℕ) → at b x n ≡ n * at b x 1
at-scaled b x n = elim (b == x) as (λ t. cond t n 0 ≡ n * cond t 1 0) [ true ↦ omega arith | false ↦ omega arith ]

share-scaled : (e : Option Ends) (x n m : ℕ) → share e x 1 ≡ m → share e x n ≡ n * m
share-scaled None x n m h = let e : n * 0 ≡ n * m = ap (λ k. n * k) h in omega (arith, e)
share-scaled (Some ends) x n m h =
    let a = at-scaled ends.a x n in
    let b = at-scaled ends.b x n in
    let c : n * (at ends.a x 1 + at ends.b x 1) ≡ n * m = ap (λ k. n * k) h in
    omega (arith, a, b, c)

-- the share of a link that joins two bridges
pub joins-share : (ends : Ends) (x y z n : ℕ) → Joins ends x y → share (Some ends) z n ≡ at x z n + at y z n
joins-share ends x y z n (inl h) = let a = ap (λ b. at b z n) h.0 in let b = ap (λ b. at b z n) h.1 in omega
    (arith, a, b)
joins-share ends x y z n (inr h) = let a = ap (λ b. at b z n) h.0 in let b = ap (λ b. at b z n) h.1 in omega
    (arith, a, b)

-- the degree with one more link
pub degree-append : (xs : List (Option Ends)) (e : Option Ends) (x : ℕ)
    → degree (xs ++ e ∷ []) x ≡ degree xs x + share e x 1
degree-append [] e x = omega arith
degree-append (y ∷ ys) e x = let r = degree-append ys e x in omega (arith, r)

pub sum-append : (n : ℕ) (xs : List (Option Ends)) (e : Option Ends) (x : ℕ)
    → index_sum n (xs ++ e ∷ []) x ≡ index_sum n xs x + share e x (n + length xs)
sum-append n [] e x = let h : n + 0 ≡ n = omega arith in let s : share e x (n + 0) ≡ share e x n =
    ap (share e x) h in omega (arith, s)
sum-append n (y ∷ ys) e x =
    let r = sum-append (n + 1) ys e x in
    let h : (n + 1) + length ys ≡ n + suc (length ys) = omega arith in
    let s : share e x ((n + 1) + length ys) ≡ share e x (n + suc (length ys)) = ap (share e x) h in
    omega (arith, r, s)

-- a degree is at most twice the number of links
pub degree-most : (xs : List (Option Ends)) (x : ℕ) → degree xs x ≤ 2 * length xs
degree-most [] x = omega arith
degree-most (y ∷ ys) x = let r = degree-most ys x in let s = share-most y x in omega (arith, r, s)

pub sum-most : (n m : ℕ) (xs : List (Option Ends)) (x : ℕ) → n + length xs ≤ m → index_sum n xs x ≤ m * degree xs x
sum-most n m [] x h = omega arith
sum-most n m (y ∷ ys) x h =
    let r = sum-most (n + 1) m ys x (omega (arith, h)) in
    let s = share-times y x n m (omega (arith, h)) in
    omega (arith, r, s)

-- the degree without a removed link
pub degree-off : (xs : List (Option Ends)) (k : ℕ) (e : Option Ends) (x : ℕ) → slice_get xs k ≡ Some e
    → degree (slice_set xs k None) x + share e x 1 ≡ degree xs x
degree-off [] k e x h = cc
degree-off (y ∷ ys) zero e x h = let s : share y x 1 ≡ share e x 1 = ap (λ z. share z x 1) (Some-injective h) in omega
    (arith, s)
degree-off (y ∷ ys) (suc k) e x h = let r = degree-off ys k e x h in omega (arith, r)

pub sum-off : (n : ℕ) (xs : List (Option Ends)) (k : ℕ) (e : Option Ends) (x : ℕ) → slice_get xs k ≡ Some e
    → index_sum n (slice_set xs k None) x + share e x (n + k) ≡ index_sum n xs x
sum-off n [] k e x h = cc
sum-off n (y ∷ ys) zero e x h =
    let s : share y x n ≡ share e x n = ap (λ z. share z x n) (Some-injective h) in
    let z : n + 0 ≡ n = omega arith in
    let t : share e x (n + 0) ≡ share e x n = ap (share e x) z in
    omega (arith, s, t)
sum-off n (y ∷ ys) (suc k) e x h =
    let r = sum-off (n + 1) ys k e x h in
    let z : (n + 1) + k ≡ n + suc k = omega arith in
    let t : share e x ((n + 1) + k) ≡ share e x (n + suc k) = ap (share e x) z in
    omega (arith, r, t)

pub off-meets : (xs : List (Option Ends)) (k j x y : ℕ) → Meets (slice_set xs k None) j x y → Meets xs j x y
off-meets xs k j x y m = record { ends = m.ends; there = others_stay xs k j m.ends m.there; joins = m.joins }

-- a link joins its bridges in both directions
pub meets-back : (xs : List (Option Ends)) (k x y : ℕ) → Meets xs k x y → Meets xs k y x
meets-back xs k x y m = record { ends = m.ends; there = m.there; joins = turn m.joins }
  where
    turn : Joins m.ends x y → Joins m.ends y x
    turn (inl h) = inr (h.1, h.0)
    turn (inr h) = inl (h.1, h.0)

-- a link is at both its bridges
pub meets-degree : (xs : List (Option Ends)) (k x y : ℕ) → Meets xs k x y → 1 ≤ degree xs x
meets-degree xs k x y m =
    let d = degree-off xs k (Some m.ends) x m.there in
    let s = joins-share m.ends x y x 1 m.joins in
    let a = at-same x 1 in
    omega (arith, d, s, a)

-- a link with both ends at one bridge counts twice there
pub loop-degree : (xs : List (Option Ends)) (k x : ℕ) → Meets xs k x x → 2 ≤ degree xs x
loop-degree xs k x m =
    let d = degree-off xs k (Some m.ends) x m.there in
    let s = joins-share m.ends x x x 1 m.joins in
    let a = at-same x 1 in
    omega (arith, d, s, a)

-- if a bridge has no link, its sum is 0
sum-none : (n : ℕ) (xs : List (Option Ends)) (x : ℕ) → degree xs x ≡ 0 → index_sum n xs x ≡ 0
sum-none n [] x h = refl
sum-none n (y ∷ ys) x h =
    let r = sum-none (n + 1) ys x (omega (arith, h)) in
    let s = share-scaled y x n 0 (omega (arith, h)) in
    omega (arith, r, s)

-- a link with a share at a bridge joins it to another
pub share-joins : (e : Option Ends) (x : ℕ) → 1 ≤ share e x 1 → (ends : Ends) × (y : ℕ) × (e ≡ Some ends)
    × Joins ends x y
share-joins None x h = absurd (omega (arith, h))
share-joins (Some ends) x h =
    elim (ends.a == x) as (λ t. (ends.a == x) ≡ t → (es : Ends) × (y : ℕ) × (Some ends ≡ Some es) × Joins es x y) [
      | true ↦ λ e. (ends, ends.b, refl, inl (eqb-true ends.a x e, refl))
      | false ↦ λ e.
          let z : at ends.a x 1 ≡ 0 = ap (λ t. cond t 1 0) e in
          (ends, ends.a, refl, inr (at-is ends.b x 1 (omega (arith, h, z)), refl))
    ] refl

-- a link at the next index
meets-later : (e : Option Ends) (xs : List (Option Ends)) (k x y : ℕ) → Meets xs k x y → Meets (e ∷ xs) (suc k) x y
meets-later e xs k x y m = record { ends = m.ends; there = m.there; joins = m.joins }

-- if a bridge has exactly one end of a link, its sum is that link's index
pub only-link : (n : ℕ) (xs : List (Option Ends)) (x : ℕ) → degree xs x ≡ 1
    → (k : ℕ) × (y : ℕ) × (index_sum n xs x ≡ n + k) × Meets xs k x y
only-link n [] x h = absurd (omega (arith, h))
only-link n (None ∷ ys) x h =
    let r = only-link (n + 1) ys x (omega (arith, h)) in
    let s = r.2 in
    (suc r.0, r.1, omega (arith, s), meets-later None ys r.0 x r.1 r.3)
only-link n (Some ends ∷ ys) x h =
    elim (share (Some ends) x 1) as
    (λ m. share (Some ends) x 1 ≡ m → (k : ℕ) × (y : ℕ) × (index_sum n (Some ends ∷ ys) x ≡ n + k) × Meets
    (Some ends ∷ ys) k x y) [
      | zero ↦ λ e.
          let r = only-link (n + 1) ys x (omega (arith, h, e)) in
          let s = r.2 in
          let t = share-scaled (Some ends) x n 0 e in
          (suc r.0, r.1, omega (arith, s, t), meets-later (Some ends) ys r.0 x r.1 r.3)
      | suc m ↦ λ e.
          let j = share-joins (Some ends) x (omega (arith, e)) in
          let s = sum-none (n + 1) ys x (omega (arith, h, e)) in
          let t = share-scaled (Some ends) x n 1 (omega (arith, h, e)) in
          (zero, j.1, omega (arith, s, t), record { ends = j.0; there = ap (λ o. Some o) j.2; joins = j.3 })
    ] refl
