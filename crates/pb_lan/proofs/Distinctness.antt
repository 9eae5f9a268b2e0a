-- Distinct keys, compared one by one with those after it. For the loops of the check of plans.
use Rattle.std.proofs.Common.{◌≡◌, ◌≤◌, ◌<◌, Bool, true, false, List, [], ◌∷◌, map, ◌||◌, ◌↔◌, length, get_or, take}
use Rattle.std.proofs.Common.{drop, ◌-◌, arith, sym, ◌∙◌, refl, ap}
use Rattle.std.proofs.lemmas.Grind.{common_steps}
use Rattle.std.specs.List.{list_any, AllByRecursion, IsDistinct}

-- if no key passes the test, each key fails it
pub none_is : {K : Type 0} (e : K → K → Bool) (k : K) (ks : List K)
    → list_any (e k) ks ≡ false → AllByRecursion (λ y. e k y ≡ false) ks
none_is e k [] h = tt
none_is e k (y ∷ ks) h = by_first (e k y) (none_is e k ks) h
  where
    by_first : (b : Bool) {P : Type 0} → {o : Bool} → (o ≡ false → P) → (b || o) ≡ false → (b ≡ false) × P
    by_first true rest h = absurd cc
    by_first false rest h = (cc, rest h)

pub none_tested : {K : Type 0} (e : K → K → Bool) (k : K) (ks : List K)
    → AllByRecursion (λ y. e k y ≡ false) ks → list_any (e k) ks ≡ false
none_tested e k [] h = refl
none_tested e k (y ∷ ks) (a, rest) = rw a (none_tested e k ks rest)

-- a test of the keys of entries, as a test of the entries
pub list_any-map : {X K : Type 0} (p : K → Bool) (f : X → K) (xs : List X)
    → list_any p (map f xs) ≡ list_any (λ x. p (f x)) xs
list_any-map p f [] = refl
list_any-map p f (x ∷ xs) = ap (λ o. p (f x) || o) (list_any-map p f xs)

-- the entries after the first, as a slice pattern gives them
abbrev pub after_first : {X : Type 0} → List X → List X
after_first xs = take (length xs - 1) (drop 1 xs)

pub after_first-cons : {X : Type 0} (x : X) (xs : List X) → after_first (x ∷ xs) ≡ xs
after_first-cons x xs = grind (arith, common_steps)

-- if no later entry has the first entry's key, the keys are distinct if and only if the later ones are
pub distinct_rest : {X K : Type 0} (e : K → K → Bool) (f : X → K) (xs : List X) (x : X) (k : K)
    → 1 ≤ length xs → x ≡ get_or xs 0 x → k ≡ f x → list_any (λ t. e k (f t)) (after_first xs) ≡ false
    → IsDistinct e (map f xs) ↔ IsDistinct e (map f (after_first xs))
unfolding IsDistinct
distinct_rest e f [] x k some is key h = absurd (omega arith)
distinct_rest e f (y ∷ xs) x k some is key h =
    let first : k ≡ f y = cc in
    let none : list_any (λ t. e k (f t)) xs ≡ false = rw (after_first-cons y xs) at h in
    rw (after_first-cons y xs)
    ((λ d. d.1), (λ d. (rw (← first) (none_is e k (map f xs) (list_any-map (e k) f xs ∙ none)), d)))

-- if a later entry has the first entry's key, the keys are not distinct
pub not_distinct : {X K : Type 0} (e : K → K → Bool) (f : X → K) (xs : List X) (x : X) (k : K)
    → 1 ≤ length xs → x ≡ get_or xs 0 x → k ≡ f x → list_any (λ t. e k (f t)) (after_first xs) ≡ true
    → IsDistinct e (map f xs) → ⊥
unfolding IsDistinct
not_distinct e f [] x k some is key h d = absurd (omega arith)
not_distinct e f (y ∷ xs) x k some is key h d =
    let first : f y ≡ k = cc in
    let has : list_any (λ t. e k (f t)) xs ≡ true = rw (after_first-cons y xs) at h in
    let n : list_any (λ t. e k (f t)) xs ≡ false = sym (list_any-map (e k) f xs)
    ∙ none_tested e k (map f xs) (rw first at d.0) in
    cc

pub distinct_end : {X K : Type 0} (e : K → K → Bool) (f : X → K) (xs : List X) → length xs < 1 → IsDistinct e (map f xs)
unfolding IsDistinct
distinct_end e f [] h = tt
distinct_end e f (x ∷ xs) h = absurd (omega arith)
