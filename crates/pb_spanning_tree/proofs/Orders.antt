-- The order of lists of numbers, number by number.
use Rattle.std.proofs.Common.{◌≡◌, ℕ, ◌≤◌, ◌<◌, List, [], ◌∷◌, refl, sym, ap, ap₂, ◌∙◌, ◌++◌, arith, Bool, true}
use Rattle.std.proofs.Common.{false, nat_lt, ◌==◌, ◌&&◌, ◌||◌}
use Rattle.std.proofs.lemmas.Bool.{eqb-true, ltb-false, le-ltb, lt-ltb, eq-eqb, or_parts, or_from}
use Rattle.pb_rstp.specs.Vectors.{is_before}

-- a list that is not before another has no lesser head
pub head_least : (m n : ℕ) (ms ns : List ℕ) → is_before (m ∷ ms) (n ∷ ns) ≡ false → n ≤ m
head_least m n ms ns e = let o = or_parts (nat_lt m n) (m == n && is_before ms ns) e in ltb-false m n o.0

-- with equal heads the rest decides
pub same_heads : (m n : ℕ) (ms ns : List ℕ) → m ≡ n → is_before (m ∷ ms) (n ∷ ns) ≡ is_before ms ns
same_heads m n ms ns e =
    ap₂ (λ s t. s || (t && is_before ms ns)) (le-ltb m n (omega (arith, e))) (eq-eqb m n e)

-- a list with the lesser head is before the other
pub lesser_head : (m n : ℕ) (ms ns : List ℕ) → m < n → is_before (m ∷ ms) (n ∷ ns) ≡ true
lesser_head m n ms ns below = ap (λ s. s || (m == n && is_before ms ns)) (lt-ltb m n below)

-- a list with the greater head is not before the other
pub greater_head : (m n : ℕ) (ms ns : List ℕ) → n < m → is_before (m ∷ ms) (n ∷ ns) ≡ false
greater_head m n ms ns above =
    or_from (nat_lt m n) (m == n && is_before ms ns) (le-ltb m n (omega (arith, above))) (differ (m == n) refl)
  where
    differ : (t : Bool) → (m == n) ≡ t → (t && is_before ms ns) ≡ false
    differ true e = absurd (omega (arith, eqb-true m n e, above))
    differ false e = refl

-- a list is not before another if its head is not less, and with equal heads the rest is not before
pub not_before_by : (m n : ℕ) (ms ns : List ℕ) → n ≤ m → (m ≡ n → is_before ms ns ≡ false)
    → is_before (m ∷ ms) (n ∷ ns) ≡ false
not_before_by m n ms ns least rest =
    or_from (nat_lt m n) (m == n && is_before ms ns) (le-ltb m n least) (by_test (m == n) refl)
  where
    by_test : (t : Bool) → (m == n) ≡ t → (t && is_before ms ns) ≡ false
    by_test true e = rest (eqb-true m n e)
    by_test false e = refl

-- the rest of a list that is not before another with the same head is not before the other's rest
pub not_before_rest : (m n : ℕ) (ms ns : List ℕ) → is_before (m ∷ ms) (n ∷ ns) ≡ false → m ≡ n
    → is_before ms ns ≡ false
not_before_rest m n ms ns e same = sym (same_heads m n ms ns same) ∙ e

-- a list that is not before another is not before it with a greater second number either
pub not_before_more : (r c c' s d : ℕ) (ms ns : List ℕ) → c ≤ c' → is_before (r ∷ c ∷ ms) (s ∷ d ∷ ns) ≡ false
    → is_before (r ∷ c' ∷ ms) (s ∷ d ∷ ns) ≡ false
not_before_more r c c' s d ms ns more e =
    not_before_by r s (c' ∷ ms) (d ∷ ns) (head_least r s (c ∷ ms) (d ∷ ns) e) (λ same.
    let f = not_before_rest r s (c ∷ ms) (d ∷ ns) e same in
    let h = head_least c d ms ns f in
    not_before_by c' d ms ns (omega (arith, h, more)) (λ equal.
    not_before_rest c d ms ns f (omega (arith, h, more, equal))))

-- lists that agree up to their last number, and of which one is not before the other, are so without that number
pub not_before_front : (ms ns : List ℕ) (m n : ℕ) → is_before (ms ++ m ∷ []) (ns ++ n ∷ []) ≡ false
    → is_before ms ns ≡ false
not_before_front [] ns m n e = refl
not_before_front (x ∷ xs) [] m n e = refl
not_before_front (x ∷ xs) (y ∷ ys) m n e =
    not_before_by x y xs ys (head_least x y (xs ++ m ∷ []) (ys ++ n ∷ []) e)
    (λ same. not_before_front xs ys m n (not_before_rest x y (xs ++ m ∷ []) (ys ++ n ∷ []) e same))
