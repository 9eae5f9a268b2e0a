-- The number of local ports that a set contains is the length of its list, and the number of its bits that are set.
use Rattle.std.proofs.Common.{◌≡◌, zero, suc, ℕ, ◌+◌, ◌*◌, ◌/◌, ◌%◌, ◌^◌, ◌<◌, ◌==◌, Bool, true, false, cond, ◌||◌}
use Rattle.std.proofs.Common.{List, [], ◌∷◌, ◌++◌, length, count_ones, refl, sym, ap, ◌∙◌, arith, eq-eqb}
use Rattle.std.proofs.Math.Nat.{pow-succ'}
use Rattle.std.proofs.lemmas.List.Sums.{sum_by-cons}
use Rattle.std.specs.List.{count_by, list_any, range_with_len}
use Rattle.pb_lan.proofs.PortBits.{unequal}
use Rattle.pb_lan.specs.PortSets.{ports_in}
use lib.Count.{ones_step, ones-le}

abbrev stands : List ℕ → ℕ → Bool
stands ports q = list_any (λ p. p == q) ports

-- a port below the first one is not in the list
none_before : (n p q bits : ℕ) → q < p → stands (ports_in n p bits) q ≡ false
unfolding ports_in
none_before zero p q bits l = refl
none_before (suc n) p q bits l = by (bits % 2 == 1) (none_before n (p + 1) q (bits / 2) (omega (arith, l)))
  where
    by : (b : Bool) → stands (ports_in n (p + 1) (bits / 2)) q ≡ false
        → stands (cond b (p ∷ []) [] ++ ports_in n (p + 1) (bits / 2)) q ≡ false
    by true rest = ap (λ c. c || stands (ports_in n (p + 1) (bits / 2)) q)
        (unequal p q (λ e. absurd (omega (arith, e, l)))) ∙ rest
    by false rest = rest

-- tests that agree on all later numbers count them alike
count_same : (f g : ℕ → Bool) (p n k : ℕ) → p < k → ((q : ℕ) → p < q → f q ≡ g q)
    → count_by f (range_with_len k n) ≡ count_by g (range_with_len k n)
count_same f g p zero k l same = refl
count_same f g p (suc n) k l same =
    sum_by-cons (λ q. cond (f q) 1 0) k (range_with_len (k + 1) n)
    ∙ ap (λ b. cond b 1 0 + count_by f (range_with_len (k + 1) n)) (same k l)
    ∙ ap (λ m. cond (g k) 1 0 + m) (count_same f g p n (k + 1) (omega (arith, l)) same)
    ∙ sym (sum_by-cons (λ q. cond (g q) 1 0) k (range_with_len (k + 1) n))

pub all_stand : (n p bits : ℕ) → count_by (stands (ports_in n p bits)) (range_with_len p n) ≡ length (ports_in n p bits)
unfolding ports_in
all_stand zero p bits = refl
all_stand (suc n) p bits = by (bits % 2 == 1) (all_stand n (p + 1) (bits / 2))
  where
    rest : List ℕ
    rest = ports_in n (p + 1) (bits / 2)

    by : (b : Bool) → count_by (stands rest) (range_with_len (p + 1) n) ≡ length rest
        → count_by (stands (cond b (p ∷ []) [] ++ rest)) (range_with_len p (suc n)) ≡ length
        (cond b (p ∷ []) [] ++ rest)
    by true later =
        let here = sum_by-cons (λ q. cond (stands (p ∷ rest) q) 1 0) p (range_with_len (p + 1) n) in
        let one = ap {B = ℕ} (λ b. cond (b || stands rest p) 1 0) (eq-eqb p p refl) in
        let others = count_same (stands (p ∷ rest)) (stands rest) p n (p + 1) (omega arith)
        (λ q l. ap (λ b. b || stands rest q) (unequal p q (λ e. absurd (omega (arith, e, l))))) in
        omega (arith, here, one, others, later)
    by false later =
        let here = sum_by-cons (λ q. cond (stands rest q) 1 0) p (range_with_len (p + 1) n) in
        let none = ap {B = ℕ} (λ b. cond b 1 0) (none_before n (p + 1) p (bits / 2) (omega arith)) in
        omega (arith, here, none, later)

-- the number of bits that are set is the length of the list
pub ones_are : (n p bits : ℕ) → bits < 2 ^ n → length (ports_in n p bits) ≡ count_ones bits
unfolding ports_in
ones_are zero p bits l = let few = ones-le 0 bits (omega (arith, l)) in omega (arith, few)
ones_are (suc n) p bits l =
    let w : 2 ^ suc n ≡ 2 * 2 ^ n = pow-succ' 2 n in
    by (bits % 2) (omega arith) (ones_step bits) (ones_are n (p + 1) (bits / 2) (omega (arith, l, w)))
  where
    rest : List ℕ
    rest = ports_in n (p + 1) (bits / 2)

    by : (d : ℕ) → d < 2 → count_ones bits ≡ d + count_ones (bits / 2) → length rest ≡ count_ones (bits / 2)
        → length (cond (d == 1) (p ∷ []) [] ++ rest) ≡ count_ones bits
    by (suc (suc d)) l e f = absurd (omega (arith, l))
    by _ l e f = omega (arith, e, f)
