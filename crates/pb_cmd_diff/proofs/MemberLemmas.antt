-- What is in a list, and the ports that a service has in both plans.
use Rattle.std.proofs.Common.{◌≡◌, ◌⊎◌, ℕ, zero, suc, Bool, true, false, not, ◌==◌, ◌&&◌, ◌||◌}
use Rattle.std.proofs.Common.{List, [], ◌∷◌, ◌++◌, Some, map, slice_get, flat_map}
use Rattle.std.proofs.Common.{inl, inr, refl, sym, ap, subst, arith}
use Rattle.std.proofs.lemmas.Bool.Decides.{nat_tests}
use Rattle.std.specs.List.{Contains, list_any}
use Rattle.std.proofs.lemmas.List.Folds.{Any-from_list_any, list_any-from_Any}
use Rattle.std.proofs.lemmas.List.Elements.{Contains-append_left, Contains-append_right, Contains-append_cases}
use Rattle.pb_frame.proofs.Lists.{eqb-refl}

-- an element is in a longer list
pub contains_later : {X : Type 0} (y : X) (xs : List X) (x : X) → Contains xs x → Contains (y ∷ xs) x
contains_later y xs x (k, less, is) = (suc k, omega (arith, less), is)

-- the first element, or one of the later
pub contains_cases : {X : Type 0} (y : X) (xs : List X) (x : X) → Contains (y ∷ xs) x → (y ≡ x) ⊎ Contains xs x
contains_cases y xs x (zero, less, is) = inl is
contains_cases y xs x (suc k, less, is) = inr (k, omega (arith, less), is)

-- nothing is in the empty list
pub contains_none : {X : Type 0} (x : X) → Contains [] x → ⊥
contains_none x (k, less, is) = omega (arith, less)

-- an element of a list is at an index
pub at_of : {X : Type 0} (xs : List X) (x : X) → Contains xs x → (k : ℕ) × (slice_get xs k ≡ Some x)
at_of [] x c = absurd (contains_none x c)
at_of (y ∷ ys) x c = by (at_of ys x) (contains_cases y ys x c)
  where
    by : (Contains ys x → (k : ℕ) × (slice_get ys k ≡ Some x)) → (y ≡ x) ⊎ Contains ys x
        → (k : ℕ) × (slice_get (y ∷ ys) k ≡ Some x)
    by later (inl e) = (0, ap Some e)
    by later (inr d) = let r = later d in (suc r.0, r.1)

-- what an element is made into is in the list of all that are made
pub contains_map : {X Y : Type 0} (f : X → Y) (xs : List X) (x : X) → Contains xs x → Contains (map f xs) (f x)
contains_map f [] x c = absurd (contains_none x c)
contains_map f (z ∷ zs) x c = by (contains_map f zs x) (contains_cases z zs x c)
  where
    by : (Contains zs x → Contains (map f zs) (f x)) → (z ≡ x) ⊎ Contains zs x → Contains (map f (z ∷ zs)) (f x)
    by later (inl e) = (0, omega arith, ap f e)
    by later (inr d) = contains_later (f z) (map f zs) (f x) (later d)

pub contains_unmap : {X Y : Type 0} (f : X → Y) (xs : List X) (y : Y) → Contains (map f xs) y
    → (x : X) × Contains xs x × (f x ≡ y)
contains_unmap f [] y c = absurd (contains_none y c)
contains_unmap {X = X} f (z ∷ zs) y c = by (contains_unmap f zs y) (contains_cases (f z) (map f zs) y c)
  where
    by : (Contains (map f zs) y → (x : X) × Contains zs x × (f x ≡ y)) → (f z ≡ y) ⊎ Contains (map f zs) y
        → (x : X) × Contains (z ∷ zs) x × (f x ≡ y)
    by later (inl e) = (z, (0, omega arith, refl), e)
    by later (inr d) = let r = later d in (r.0, contains_later z zs r.0 r.1, r.2)

pub contains_flat : {X Y : Type 0} (f : X → List Y) (xs : List X) (x : X) (y : Y) → Contains xs x → Contains (f x) y
    → Contains (flat_map f xs) y
contains_flat f [] x y c d = absurd (contains_none x c)
contains_flat f (z ∷ zs) x y c d = by (λ k. contains_flat f zs x y k d) (contains_cases z zs x c)
  where
    by : (Contains zs x → Contains (flat_map f zs) y) → (z ≡ x) ⊎ Contains zs x → Contains (flat_map f (z ∷ zs)) y
    by later (inl e) = Contains-append_left (f z) (flat_map f zs) y (subst (λ v. Contains (f v) y) (sym e) d)
    by later (inr k) = Contains-append_right (f z) (flat_map f zs) y (later k)

pub contains_unflat : {X Y : Type 0} (f : X → List Y) (xs : List X) (y : Y) → Contains (flat_map f xs) y
    → (x : X) × Contains xs x × Contains (f x) y
contains_unflat f [] y c = absurd (contains_none y c)
contains_unflat {X = X} f (z ∷ zs) y c = by (contains_unflat f zs y) (Contains-append_cases (f z) (flat_map f zs) y c)
  where
    by : (Contains (flat_map f zs) y → (x : X) × Contains zs x × Contains (f x) y)
        → Contains (f z) y ⊎ Contains (flat_map f zs) y → (x : X) × Contains (z ∷ zs) x × Contains (f x) y
    by later (inl d) = (z, (0, omega arith, refl), d)
    by later (inr d) = let r = later d in (r.0, contains_later z zs r.0 r.1, r.2)

-- some two elements pass a test together
pub pair_of : {X : Type 0} (test : X → X → Bool) (xs : List X) → list_any (λ x. list_any (test x) xs) xs ≡ true
    → (x y : X) × Contains xs x × Contains xs y × (test x y ≡ true)
pair_of test xs h =
    let one = Any-from_list_any (λ x. list_any (test x) xs) xs h in
    let other = Any-from_list_any (test one.1) xs one.4 in
    (one.1, other.1, (one.0, one.2, one.3), (other.0, other.2, other.3), other.4)

pub pair_passes : {X : Type 0} (test : X → X → Bool) (xs : List X) (x y : X) → Contains xs x → Contains xs y
    → test x y ≡ true → list_any (λ x. list_any (test x) xs) xs ≡ true
pair_passes test xs x y c d h =
    list_any-from_Any (λ v. list_any (test v) xs) xs
    (c.0, x, c.1, c.2, list_any-from_Any (test x) xs (d.0, y, d.1, d.2, h))

-- a test of two tests, of which the second must fail
pub and_not : (a b : Bool) → a ≡ true → b ≡ false → (a && not b) ≡ true
and_not true true h k = cc
and_not true false h k = refl
and_not false b h k = cc

-- one of two tests
pub either : (a b : Bool) → (a || b) ≡ true → (a ≡ true) ⊎ (b ≡ true)
either true b h = inl refl
either false b h = inr h

-- equal numbers pass the test, and only those
pub same_passes : (m n : ℕ) → m ≡ n → (m == n) ≡ true
same_passes m n e = subst (λ k. (m == k) ≡ true) e (eqb-refl m)

pub passes_same : (m n : ℕ) → (m == n) ≡ true → m ≡ n
passes_same m n h = grind (arith, nat_tests, h)
