-- The items that a lane loses, with one item more.
use Rattle.std.proofs.Common.{◌≡◌, ℕ, zero, suc, ◌+◌, ◌<◌, ◌≤◌, Bool, true, false, if◌then◌else◌, ◌==◌, ◌||◌, List}
use Rattle.std.proofs.Common.{[], ◌∷◌, drop, refl, sym, ap, subst, ◌∙◌, arith, ne_eqb, eqb-true, add-one}
use Rattle.std.specs.List.{list_any, AllByRecursion}
use Rattle.std.proofs.Math.Bool.{or-false}
use Rattle.pb_frame.proofs.Lists.{All-imply}
use Rattle.pb_frame.specs.Lists.{Rises}
use Rattle.pb_link.specs.Losses.{is_first, IsNext}

-- a number below all numbers of a list is not in the list
none-above : (n : ℕ) (ks : List ℕ) → AllByRecursion (λ m. n < m) ks → list_any (λ k. k == n) ks ≡ false
none-above n [] a = refl
none-above n (k ∷ ks) (a, rest) = let ne : (k == n) ≡ false = ne_eqb k n (λ e. absurd (omega arith)) in rw ne
    (none-above n ks rest)

-- a number that is at most the first of rising numbers is in the list exactly if it is the first
first-any : (ks : List ℕ) (n : ℕ) → Rises ks → AllByRecursion (λ k. n ≤ k) ks
    → is_first ks n ≡ list_any (λ k. k == n) ks
first-any [] n rising coming = refl
first-any (k ∷ ks) n rising coming =
    let least = coming.0 in
    let none = none-above n ks (All-imply (λ m. k < m) (λ m. n < m) (λ m h. omega arith) ks rising.0) in
    sym (ap (λ b. (k == n) || b) none ∙ or-false (k == n))

-- `is_first` says whether the next item is lost
pub lost_is : (numbers : List ℕ) (next taken : ℕ) → IsNext numbers next taken
    → is_first (drop next numbers) taken ≡ list_any (λ k. k == taken) numbers
lost_is numbers next taken at = first-any (drop next numbers) taken at.rising at.coming
    ∙ sym (at.gone taken (omega arith))

-- `IsNext` for the remaining numbers as a list
record IsRest (numbers rest : List ℕ) (taken : ℕ) : Type 0 where
  pub rising : Rises rest
  pub coming : AllByRecursion (λ k. taken ≤ k) rest
  pub gone : (n : ℕ) → taken ≤ n → list_any (λ k. k == n) numbers ≡ list_any (λ k. k == n) rest

rest-more : (numbers rest : List ℕ) (taken : ℕ) → IsRest numbers rest taken
    → IsRest numbers (if is_first rest taken then drop 1 rest else rest) (taken + 1)
rest-more numbers [] taken at = record { rising = tt; coming = tt; gone = λ n h. at.gone n (omega arith) }
rest-more numbers (k ∷ ks) taken at =
    elim (k == taken) as (λ b. (k == taken) ≡ b → IsRest numbers (if b then ks else (k ∷ ks)) (taken + 1)) [
      | true ↦ λ e.
          let one : k ≡ taken = eqb-true k taken e in
          record {
            rising = at.rising.1;
            coming = All-imply (λ m. k < m) (λ m. taken + 1 ≤ m) (λ m h. omega (arith, one)) ks at.rising.0;
            gone = λ n h. let ne : (k == n) ≡ false = ne_eqb k n (λ same. absurd (omega arith)) in rw ne at
                (at.gone n (omega arith));
          }
      | false ↦ λ e.
          let least = at.coming.0 in
          let more : taken + 1 ≤ k = above k taken least e in
          record {
            rising = at.rising;
            coming = (more, All-imply (λ m. k < m) (λ m. taken + 1 ≤ m) (λ m h. omega arith) ks at.rising.0);
            gone = λ n h. at.gone n (omega arith);
          }
    ] refl
  where
    above : (k n : ℕ) → n ≤ k → (k == n) ≡ false → n + 1 ≤ k
    above k n h e = grind (arith, h, e)

drop-more : {X : Type 0} (n : ℕ) (xs : List X) → drop (suc n) xs ≡ drop 1 (drop n xs)
drop-more zero [] = refl
drop-more zero (x ∷ xs) = refl
drop-more (suc n) [] = refl
drop-more (suc n) (x ∷ xs) = drop-more n xs

drop-if : (b : Bool) (n : ℕ) (xs : List ℕ)
    → drop (if b then n + 1 else n) xs ≡ (if b then drop 1 (drop n xs) else drop n xs)
drop-if true n xs = ap (λ k. drop k xs) (add-one n) ∙ drop-more n xs
drop-if false n xs = refl

-- `IsNext` holds after one more item
pub next-more : (numbers : List ℕ) (next taken : ℕ) → IsNext numbers next taken
    → IsNext numbers (if is_first (drop next numbers) taken then next + 1 else next) (taken + 1)
next-more numbers next taken at =
    let more = rest-more numbers (drop next numbers) taken
    (record { rising = at.rising; coming = at.coming; gone = at.gone }) in
    let there = subst (λ (rest : List ℕ). IsRest numbers rest (taken + 1))
    (sym (drop-if (is_first (drop next numbers) taken) next numbers)) more in
    record { rising = there.rising; coming = there.coming; gone = there.gone }
