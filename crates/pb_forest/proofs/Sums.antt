-- Sums over lists.
use Rattle.std.proofs.Common.{◌≡◌, ℕ, zero, suc, ◌+◌, ◌*◌, Some, Bool, true, false, cond, ◌||◌, ◌==◌, List, [], ◌∷◌}
use Rattle.std.proofs.Common.{◌++◌, map, length, slice_get, unwrap_or, refl, sym, ◌∙◌, ap, arith, nat_eq}
use Rattle.std.proofs.lemmas.Bool.{eqb-true}
use Rattle.std.proofs.lemmas.List.Sums.{sum_by-append}
use Rattle.std.specs.List.{AllByRecursion, IsDistinct, sum_by, list_any}
use Rattle.pb_frame.proofs.Lists.{All-imply}
use Rattle.pb_frame.proofs.Things.{suc-test}
use Rattle.pb_lan.specs.Numbering.{numbered}

-- a number if a test holds, otherwise 0
abbrev pub given : Bool → ℕ → ℕ
given b n = cond b n 0

-- a sum from the right
abbrev pub total : {X : Type 0} → (X → ℕ) → List X → ℕ
total f [] = 0
total f (x ∷ xs) = f x + total f xs

-- the sum from the right is the sum from the left
pub sum_by-total : {X : Type 0} (f : X → ℕ) (xs : List X) → sum_by f xs ≡ total f xs
sum_by-total f [] = refl
sum_by-total f (x ∷ xs) =
    let h : sum_by f (x ∷ xs) ≡ (0 + f x) + sum_by f xs = sum_by-append f (x ∷ []) xs in
    let r = sum_by-total f xs in
    omega (arith, h, r)

pub total-append : {X : Type 0} (f : X → ℕ) (xs ys : List X) → total f (xs ++ ys) ≡ total f xs + total f ys
total-append f [] ys = omega arith
total-append f (x ∷ xs) ys = let r = total-append f xs ys in omega (arith, r)

pub total-plus : {X : Type 0} (f g : X → ℕ) (xs : List X) → total (λ x. f x + g x) xs ≡ total f xs + total g xs
total-plus f g [] = refl
total-plus f g (x ∷ xs) = let r = total-plus f g xs in omega (arith, r)

-- functions that agree on the list have the same sum
pub total-same : {X : Type 0} (f g : X → ℕ) (xs : List X) → AllByRecursion (λ x. f x ≡ g x) xs → total f xs ≡ total g xs
total-same f g [] a = refl
total-same f g (x ∷ xs) a = let r = total-same f g xs a.1 in let h = a.0 in omega (arith, r, h)

-- functions that agree everywhere have the same sum
pub total-agree : {X : Type 0} (f g : X → ℕ) → ((x : X) → f x ≡ g x) → (xs : List X) → total f xs ≡ total g xs
total-agree f g h [] = refl
total-agree f g h (x ∷ xs) = let r = total-agree f g h xs in let e = h x in omega (arith, r, e)

pub total-none : {X : Type 0} (xs : List X) → total (λ x. 0) xs ≡ 0
total-none [] = refl
total-none (x ∷ xs) = let r = total-none xs in omega (arith, r)

-- a double sum may be swapped
pub total-swap : {X Y : Type 0} (f : X → Y → ℕ) (xs : List X) (ys : List Y)
    → total (λ x. total (f x) ys) xs ≡ total (λ y. total (λ x. f x y) xs) ys
total-swap f [] ys = sym (total-none ys)
total-swap f (x ∷ xs) ys =
    let r = total-swap f xs ys in
    let p = total-plus (f x) (λ y. total (λ z. f z y) xs) ys in
    omega (arith, r, p)

pub total-map : {X Y : Type 0} (f : Y → ℕ) (g : X → Y) (xs : List X) → total f (map g xs) ≡ total (λ x. f (g x)) xs
total-map f g [] = refl
total-map f g (x ∷ xs) = let r = total-map f g xs in omega (arith, r)

-- a sum of 0 has terms of 0 only
pub total-zero : {X : Type 0} (f : X → ℕ) (xs : List X) → total f xs ≡ 0 → AllByRecursion (λ x. f x ≡ 0) xs
total-zero f [] h = tt
total-zero f (x ∷ xs) h = (omega (arith, h), total-zero f xs (omega (arith, h)))

-- a sum whose terms depend on the index
abbrev pub total_at : {X : Type 0} → (ℕ → X → ℕ) → List X → ℕ
total_at f [] = 0
total_at f (x ∷ xs) = f 0 x + total_at (λ n. f (suc n)) xs

pub total-at : {X : Type 0} (f : X → ℕ) (xs : List X) → total f xs ≡ total_at (λ n. f) xs
total-at f [] = refl
total-at f (x ∷ xs) = let r = total-at f xs in omega (arith, r)

pub total_at-same : {X : Type 0} (f g : ℕ → X → ℕ) (xs : List X)
    → ((n : ℕ) (x : X) → slice_get xs n ≡ Some x → f n x ≡ g n x) → total_at f xs ≡ total_at g xs
total_at-same f g [] h = refl
total_at-same f g (x ∷ xs) h =
    let r = total_at-same (λ n. f (suc n)) (λ n. g (suc n)) xs (λ n y e. h (suc n) y e) in
    let e = h 0 x refl in
    omega (arith, r, e)

pub total_at-plus : {X : Type 0} (f g : ℕ → X → ℕ) (xs : List X)
    → total_at (λ n x. f n x + g n x) xs ≡ total_at f xs + total_at g xs
total_at-plus f g [] = refl
total_at-plus f g (x ∷ xs) = let r = total_at-plus (λ n. f (suc n)) (λ n. g (suc n)) xs in omega (arith, r)

pub total_at-none : {X : Type 0} (xs : List X) → total_at (λ n x. 0) xs ≡ 0
total_at-none [] = refl
total_at-none (x ∷ xs) = let r = total_at-none xs in omega (arith, r)

pub total_at-zero : {X : Type 0} (f : ℕ → X → ℕ) (xs : List X) → total_at f xs ≡ 0 → (n : ℕ) (x : X)
    → slice_get xs n ≡ Some x → f n x ≡ 0
total_at-zero f [] h n x e = cc
total_at-zero f (y ∷ ys) h zero x e = let one : f 0 y ≡ 0 = omega (arith, h) in ap (λ z. f 0 (unwrap_or z y)) (sym e)
    ∙ one
total_at-zero f (y ∷ ys) h (suc n) x e = total_at-zero (λ n. f (suc n)) ys (omega (arith, h)) n x e

-- a double sum with an index may be swapped
pub total_at-swap : {X Y : Type 0} (f : X → ℕ → Y → ℕ) (xs : List X) (ys : List Y)
    → total (λ x. total_at (f x) ys) xs ≡ total_at (λ n y. total (λ x. f x n y) xs) ys
total_at-swap f xs [] = total-none xs
total_at-swap f xs (y ∷ ys) =
    let r = total_at-swap (λ x n. f x (suc n)) xs ys in
    let p = total-plus (λ x. f x 0 y) (λ x. total_at (λ n. f x (suc n)) ys) xs in
    omega (arith, r, p)

-- a sum over a list as one over another list of the same length
pub total-lists : {X Y : Type 0} (f : List X → ℕ) (ls : List (List X)) (bs : List Y) → length ls ≡ length bs
    → total f ls ≡ total_at (λ n b. f (unwrap_or (slice_get ls n) [])) bs
total-lists f [] [] e = refl
total-lists f (a ∷ ls) (b ∷ bs) e = let r = total-lists f ls bs (omega (arith, e)) in omega (arith, r)
total-lists f _ _ e = absurd (omega (arith, e))

-- a sum over a list as one over another list of half the length
pub total-pairs : {X Y : Type 0} (f : List X → ℕ) (ls : List (List X)) (bs : List Y) → length ls ≡ 2 * length bs
    → total f ls ≡ total_at (λ n b. f (unwrap_or (slice_get ls (2 * n)) []) + f
    (unwrap_or (slice_get ls (suc (2 * n))) [])) bs
total-pairs f [] [] e = refl
total-pairs f [] (b ∷ bs) e = absurd (omega (arith, e))
total-pairs f (a ∷ ls) [] e = absurd (omega (arith, e))
total-pairs f (a ∷ []) (b ∷ bs) e = absurd (omega (arith, e))
total-pairs {Y = Y} f (a ∷ c ∷ ls) (b ∷ bs) e =
    let r = total-pairs f ls bs (omega (arith, e)) in
    let s = total_at-same
    (λ n (y : Y). f (unwrap_or (slice_get ls (2 * n)) []) + f (unwrap_or (slice_get ls (suc (2 * n))) []))
    (λ n (y : Y). f (unwrap_or (slice_get (a ∷ c ∷ ls) (2 * suc n)) []) + f
    (unwrap_or (slice_get (a ∷ c ∷ ls) (suc (2 * suc n))) []))
    bs
    (λ n y h.
    let d : suc (suc (2 * n)) ≡ 2 * suc n = omega arith in
    ap (λ k. f (unwrap_or (slice_get (a ∷ c ∷ ls) k) []) + f (unwrap_or (slice_get (a ∷ c ∷ ls) (suc k)) [])) d) in
    omega (arith, r, s)

-- the value of the element with a number, as a sum over all elements
pub total-numbered : {X : Type 0} (h : X → ℕ) (d : X) → h d ≡ 0 → (k : ℕ) (xs : List X)
    → h (unwrap_or (numbered xs k) d) ≡ total_at (λ n x. cond (suc n == k) (h x) 0) xs
total-numbered {X = X} h d e zero xs =
    e ∙ sym (total_at-same (λ n x. cond (suc n == 0) (h x) 0) (λ n x. 0) xs
    (λ n x g. ap (λ b. cond b (h x) 0) (never n)) ∙ total_at-none xs)
  where
    never : (n : ℕ) → (suc n == 0) ≡ false
    never n = grind arith
total-numbered {X = X} h d e (suc k) xs = at k xs
  where
    later : (n : ℕ) → (suc (suc n) == 1) ≡ false
    later n = grind arith

    first : (k : ℕ) → (1 == suc (suc k)) ≡ false
    first k = grind arith

    at : (k : ℕ) (xs : List X) → h (unwrap_or (slice_get xs k) d) ≡ total_at (λ n x. cond (suc n == suc k) (h x) 0) xs
    at k [] = e
    at zero (x ∷ xs) =
        let z : total_at (λ n x. cond (suc (suc n) == 1) (h x) 0) xs ≡ 0 =
        total_at-same (λ n x. cond (suc (suc n) == 1) (h x) 0) (λ n x. 0) xs
        (λ n x g. ap (λ b. cond b (h x) 0) (later n)) ∙ total_at-none xs in
        omega (arith, z)
    at (suc k) (x ∷ xs) =
        let r = at k xs in
        let s = total_at-same (λ n x. cond (suc n == suc k) (h x) 0)
        (λ n x. cond (suc (suc n) == suc (suc k)) (h x) 0) xs
        (λ n x g. ap (λ b. cond b (h x) 0) (sym (suc-test (suc n) (suc k)))) in
        let z : cond (1 == suc (suc k)) (h x) 0 ≡ 0 = ap (λ b. cond b (h x) 0) (first k) in
        omega (arith, r, s, z)

-- one number in a list of distinct numbers has one term in a sum
pub total-once : (h : ℕ → ℕ) (k : ℕ) (xs : List ℕ) → IsDistinct nat_eq xs → list_any (λ x. x == k) xs ≡ true
    → total (λ x. cond (x == k) (h x) 0) xs ≡ h k
unfolding IsDistinct
total-once h k [] d f = cc
total-once h k (x ∷ xs) d f =
    elim (x == k) as (λ b. (x == k) ≡ b → (b || list_any (λ y. y == k) xs) ≡ true → cond b (h x) 0 + total
    (λ y. cond (y == k) (h y) 0) xs ≡ h k) [
      | true ↦ λ e g.
          let one : x ≡ k = eqb-true x k e in
          let z : total (λ y. cond (y == k) (h y) 0) xs ≡ 0 =
          total-same (λ y. cond (y == k) (h y) 0) (λ y. 0) xs
          (All-imply (λ y. nat_eq x y ≡ false) (λ y. cond (y == k) (h y) 0 ≡ 0)
          (λ y a. ap (λ b. cond b (h y) 0) (other y one a)) xs d.0) ∙ total-none xs in
          let s : h x ≡ h k = ap h one in
          omega (arith, z, s)
      | false ↦ λ e g. let r = total-once h k xs d.1 g in omega (arith, r)
    ] refl f
  where
    other : (y : ℕ) → x ≡ k → nat_eq x y ≡ false → (y == k) ≡ false
    other y e a = grind (arith, e, a)
