-- The value of one of many elements, and its changes, for the functions of `sides`.
use Rattle.std.proofs.Common.{◌≡◌, ◌==◌, ◌<◌, ℕ, zero, suc, List, [], ◌∷◌, ◌++◌, slice_index_or, slice_set}
use Rattle.std.proofs.Common.{if◌then◌else◌, length, false, map, append-nil, refl, sym, arith, ap, ◌∙◌}
use Rattle.std.proofs.lemmas.Bool.Decides.{nat_tests}
use Rattle.pb_frame.proofs.Things.{suc-test}
use Rattle.pb_ring.specs.Rings.{shown_at}

zero_suc : (p : ℕ) → (0 == suc p) ≡ false
zero_suc p = grind (arith, nat_tests)

suc_zero : (p : ℕ) → (suc p == 0) ≡ false
suc_zero p = grind (arith, nat_tests)

-- if one element's value grows, the value at its index grows by that, and all others are unchanged
pub grows_at : {X A : Type 0} → (f : X → List A) (xs : List X) (q : ℕ) (x y : X) (ys : List A) (p : ℕ) → q < length xs
    → x ≡ slice_index_or xs q x → f y ≡ f x ++ ys → shown_at f (slice_set xs q y) p ≡ shown_at f xs p
    ++ (if q == p then ys else [])
grows_at f [] q x y ys p b at is = absurd (grind (arith))
grows_at f (z ∷ zs) zero x y ys zero b at is = is ∙ ap (λ v. f v ++ ys) at
grows_at f (z ∷ zs) zero x y ys (suc p) b at is = rw (zero_suc p) (sym (append-nil _))
grows_at f (z ∷ zs) (suc q) x y ys zero b at is = rw (suc_zero q) (sym (append-nil _))
grows_at f (z ∷ zs) (suc q) x y ys (suc p) b at is = rw (suc-test q p) (grows_at f zs q x y ys p (grind (arith)) at is)

-- the value of an element, by its index
pub at_place : {X Y : Type 0} → (f : X → Y) (xs : List X) (q : ℕ) (x : X) (d : Y) → q < length xs
    → x ≡ slice_index_or xs q x → slice_index_or (map f xs) q d ≡ f x
at_place f [] q x d b at = absurd (grind (arith))
at_place f (z ∷ zs) zero x d b at = ap f (sym at)
at_place f (z ∷ zs) (suc q) x d b at = at_place f zs q x d (grind (arith)) at

-- the value at an index after an element was set there
pub put_there : {X Y : Type 0} → (f : X → Y) (xs : List X) (q : ℕ) (y : X) (d : Y) → q < length xs
    → slice_index_or (map f (slice_set xs q y)) q d ≡ f y
put_there f [] q y d b = absurd (grind (arith))
put_there f (z ∷ zs) zero y d b = refl
put_there f (z ∷ zs) (suc q) y d b = put_there f zs q y d (grind (arith))
