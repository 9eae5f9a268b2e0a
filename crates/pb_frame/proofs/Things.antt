-- Elements of a list by index, and lists with one element more.
use Rattle.std.proofs.Common.{◌≡◌, ℕ, zero, suc, ◌+◌, ◌-◌, ◌<◌, ◌==◌, false, true, List, [], ◌∷◌, ◌++◌, Some, None}
use Rattle.std.proofs.Common.{length, map, drop, set, slice_get, get_or, flat_map, is_some, refl, sym, ap, ◌∙◌, arith}
use Rattle.std.proofs.Common.{inl, inr, append-nil, length-append, subst}
use Rattle.std.proofs.Common.{eq-eqb, ne_eqb, eqb-true, ◌≢◌, ◌⊎◌}
use Rattle.std.proofs.lemmas.Bool.{cases_eq}
use Rattle.std.proofs.lemmas.Grind.{flat_map-append}
use Rattle.std.proofs.lemmas.Option.{slice_get-get_or, slice_get-map, slice_get_within, get_or_from_slice_get}
use Rattle.std.specs.Option.{option_map}
use Rattle.std.specs.declared.option.Option.{Option}
use Rattle.std.proofs.lemmas.List.{drop_more}
use Rattle.pb_frame.proofs.Lists.{Some-injective, false-unless}

-- the order of the operands does not matter to the equality test
pub eqb-symm : (a b : ℕ) → (a == b) ≡ (b == a)
eqb-symm a b = elim (cases_eq a b) [
  | inl e ↦ eq-eqb a b e ∙ sym (eq-eqb b a (sym e))
  | inr n ↦ ne_eqb a b n ∙ sym (ne_eqb b a (λ e. n (sym e)))
]

-- a lesser number is not equal to a greater one
pub lt-not_same : (m n : ℕ) → m < n → (m == n) ≡ false
lt-not_same m n h = false-unless (m == n) (λ e. omega (arith, eqb-true m n e))

-- a number below the successor is below the number or equal to it
pub one_less : (k n : ℕ) → k < n + 1 → (k < n) ⊎ (k ≡ n)
one_less k n h = grind arith

-- the equality test of successors is that of the numbers
pub suc-test : (m n : ℕ) → (suc m == suc n) ≡ (m == n)
suc-test m n = elim (m == n) as (λ b. (m == n) ≡ b → (suc m == suc n) ≡ b)
    [ true ↦ λ h. let e = eqb-true m n h in grind (arith, e) | false ↦ λ h. grind (arith, h) ] refl

-- an option without a value is `None`
pub none_from : {X : Type 0} (o : Option X) → is_some o ≡ false → o ≡ None
none_from None h = refl
none_from (Some x) h = cc

-- equal pairs in options have equal parts
pub same_parts : {X Y : Type 0} (a : X) (b : Y) (x : X) (y : Y) → ◌≡◌ {A = Option (X × Y)} (Some (a, b)) (Some (x, y))
    → (a ≡ x) × (b ≡ y)
same_parts a b x y e = let f = Some-injective e in (ap (λ p. p.0) f, ap (λ p. p.1) f)

-- each index below the length has an element
pub thing_within : {X : Type 0} (xs : List X) (n : ℕ) → n < length xs → (x : X) × (slice_get xs n ≡ Some x)
thing_within [] n h = absurd (omega (arith, h))
thing_within (x ∷ xs) zero h = (x, refl)
thing_within (x ∷ xs) (suc n) h = thing_within xs n (omega (arith, h))

-- the element that `get_or` gives at an index within the list
pub here_is : {X : Type 0} (xs : List X) (r : ℕ) (x : X) → r < length xs → x ≡ get_or xs r x → slice_get xs r ≡ Some x
here_is xs r x within e = slice_get-get_or xs r x within ∙ ap (λ z. Some z) (sym e)

-- looking up in the images gives the image
pub part_at : {X Y : Type 0} (f : X → Y) (xs : List X) (r : ℕ) (x : X) → slice_get xs r ≡ Some x
    → slice_get (map f xs) r ≡ Some (f x)
part_at f xs r x e = slice_get-map f xs r ∙ ap (option_map f) e

-- looking up where an element was set gives that element
pub put_there : {X : Type 0} (xs : List X) (r : ℕ) (y : X) → r < length xs → slice_get (set xs r y) r ≡ Some y
put_there [] r y h = absurd (omega (arith, h))
put_there (x ∷ xs) zero y h = refl
put_there (x ∷ xs) (suc r) y h = put_there xs r y (omega (arith, h))

-- looking up at another index gives what was there
pub put_elsewhere : {X : Type 0} (xs : List X) (r s : ℕ) (y : X) → s ≢ r → slice_get (set xs r y) s ≡ slice_get xs s
put_elsewhere (x ∷ xs) zero zero y h = absurd (h refl)
put_elsewhere (x ∷ xs) (suc r) (suc s) y h = put_elsewhere xs r s y (λ e. h (ap (λ n. suc n) e))
put_elsewhere _ _ _ y h = refl

-- an element that remains after a slot was emptied was there before
pub others_stay : {X : Type 0} (xs : List (Option X)) (i n : ℕ) (x : X) → slice_get (set xs i None) n ≡ Some (Some x)
    → slice_get xs n ≡ Some (Some x)
others_stay [] i n x h = cc
others_stay (y ∷ xs) zero zero x h = let e : None ≡ Some x = Some-injective h in cc
others_stay (y ∷ xs) (suc i) (suc n) x h = others_stay xs i n x h
others_stay _ _ _ x h = h

-- the list from one of its elements on
pub from_here : {X : Type 0} (xs : List X) (k : ℕ) (x : X) → slice_get xs k ≡ Some x → drop k xs ≡ x ∷ drop (k + 1) xs
from_here xs k x at = drop_more xs k x (slice_get_within xs k x at)
    ∙ ap (λ z. z ∷ drop (k + 1) xs) (get_or_from_slice_get xs k x x at)

-- a property of each element by index extends to a list with one more element
pub each_more : {X : Type 0} (P : ℕ → X → Type 0) (xs : List X) (x : X)
    → ((r : ℕ) (y : X) → slice_get xs r ≡ Some y → P r y) → P (length xs) x
    → (r : ℕ) (y : X) → slice_get (xs ++ x ∷ []) r ≡ Some y → P r y
each_more P [] x each here zero y e = subst (P 0) (Some-injective e) here
each_more P [] x each here (suc r) y e = cc
each_more P (z ∷ xs) x each here zero y e = each zero y e
each_more P (z ∷ xs) x each here (suc r) y e =
    each_more (λ n w. P (suc n) w) xs x (λ n w h. each (suc n) w h) here r y e

-- the element after a list is at the index of the list's length
pub slice_get-next : {X : Type 0} (xs ys : List X) (y : X) → slice_get (xs ++ y ∷ ys) (length xs) ≡ Some y
slice_get-next [] ys y = refl
slice_get-next (x ∷ xs) ys y = slice_get-next xs ys y

-- the last element of a list with one element appended
pub last_is : {X : Type 0} (xs : List X) (x : X) → slice_get (xs ++ x ∷ []) (length (xs ++ x ∷ []) - 1) ≡ Some x
last_is xs x =
    let e : length xs ≡ length (xs ++ x ∷ []) - 1 = omega (arith, length-append xs (x ∷ [])) in
    subst (λ n. slice_get (xs ++ x ∷ []) n ≡ Some x) e (slice_get-next xs [] x)

-- if two lists joined are empty, the first is empty
pub front-empty : {X : Type 0} (xs ys : List X) → xs ++ ys ≡ [] → xs ≡ []
front-empty [] ys h = refl
front-empty (x ∷ xs) ys h = cc

-- the flat map of a list with one element appended
pub flat_map-more : {X Y : Type 0} (f : X → List Y) (xs : List X) (x : X) → flat_map f (xs ++ x ∷ []) ≡ flat_map f xs
    ++ f x
flat_map-more f xs x = flat_map-append f xs (x ∷ []) ∙ ap (λ z. flat_map f xs ++ z) (append-nil (f x))

-- the flat map does not change if an appended element gives nothing
pub flat_map-none : {X Y : Type 0} (f : X → List Y) (x : X) → f x ≡ [] → (xs : List X)
    → flat_map f (xs ++ x ∷ []) ≡ flat_map f xs
flat_map-none f x e xs = flat_map-more f xs x ∙ ap (λ z. flat_map f xs ++ z) e ∙ append-nil (flat_map f xs)
