-- Lists that grow, and items at their indexes.
use Rattle.std.proofs.Common.{◌≡◌, ℕ, zero, suc, ◌+◌, ◌<◌, Bool, false, List, [], ◌∷◌, ◌++◌, Some, All}
use Rattle.std.proofs.Common.{map, length, slice_get, slice_set, slice_index_or, get_or, refl, sym, ap, ◌∙◌, subst}
use Rattle.std.proofs.Common.{arith, length-append}
use Rattle.std.proofs.Math.Seq.{map-set_same}
use Rattle.std.proofs.lemmas.List.{map-append}
use Rattle.std.proofs.lemmas.List.Elements.{All-same, All-cons}
use Rattle.std.proofs.lemmas.Option.{slice_get_within, get_or_from_slice_get}
use Rattle.std.specs.declared.option.Option.{Option}
use Rattle.std.specs.List.{AllByRecursion, AllZip, list_any}
use Rattle.pb_frame.proofs.Lists.{Some-injective, All-append as each-append}
use Rattle.pb_frame.proofs.Things.{here_is, each_more}
use Rattle.pb_lan.specs.declared.step.Step.{Step}
use Rattle.pb_ring.specs.Rings.{shown_at}

-- a property of all items holds of the item at an index
pub all_at : {X : Type 0} → (P : X → Type 0) (xs : List X) (r : ℕ) (x : X) → All P xs → slice_get xs r ≡ Some x → P x
all_at P xs r x h e = subst P (get_or_from_slice_get xs r x x e) (h r x (slice_get_within xs r x e))

-- a property of the remaining items, by number, holds of the first and of those after it
pub first_to_come : {X : Type 0} (P : ℕ → X → Type 0) (k : ℕ) (x : X) (xs ys : List X) → ys ≡ x ∷ xs
    → ((n : ℕ) (y : X) → slice_get ys n ≡ Some y → P (k + n) y) → P k x
first_to_come P k x xs ys e each = let same : k + 0 ≡ k = omega arith in subst (λ n. P n x) same
    (each 0 x (ap (λ zs. slice_get zs 0) e))

pub still_to_come : {X : Type 0} (P : ℕ → X → Type 0) (k : ℕ) (x : X) (xs ys : List X) → ys ≡ x ∷ xs
    → ((n : ℕ) (y : X) → slice_get ys n ≡ Some y → P (k + n) y)
    → (n : ℕ) (y : X) → slice_get xs n ≡ Some y → P (k + 1 + n) y
still_to_come P k x xs ys e each n y h = let same : k + suc n ≡ k + 1 + n = omega arith in subst (λ m. P m y) same
    (each (suc n) y (ap (λ zs. slice_get zs (suc n)) e ∙ h))

-- an item of a list has the same index when more follow
pub slice_get-front : {X : Type 0} (xs ys : List X) (k : ℕ) (x : X) → slice_get xs k ≡ Some x
    → slice_get (xs ++ ys) k ≡ Some x
slice_get-front [] ys k x e = cc
slice_get-front (y ∷ xs) ys zero x e = e
slice_get-front (y ∷ xs) ys (suc k) x e = slice_get-front xs ys k x e

-- the item whose image is at an index is at that index
pub thing_at : {X Y : Type 0} (f : X → Y) (xs : List X) (r : ℕ) (y : Y) → slice_get (map f xs) r ≡ Some y
    → (x : X) × (slice_get xs r ≡ Some x) × (f x ≡ y)
thing_at f [] r y e = cc
thing_at f (x ∷ xs) zero y e = (x, refl, Some-injective e)
thing_at f (x ∷ xs) (suc r) y e = thing_at f xs r y e

-- the numbers of a list's items, extended by one
pub numbers_more : {X : Type 0} (f : X → ℕ) (g : ℕ → ℕ) (xs : List X) (x : X) (k : ℕ) → length xs ≡ k
    → ((q : ℕ) → q < k → slice_index_or (map f xs) q 0 ≡ g q) → f x ≡ g k
    → (q : ℕ) → q < k + 1 → slice_index_or (map f (xs ++ x ∷ [])) q 0 ≡ g q
numbers_more f g [] x k counted each here zero below = here ∙ ap g (sym counted)
numbers_more f g [] x k counted each here (suc q) below = absurd (omega arith)
numbers_more f g (y ∷ xs) x k counted each here zero below = each zero (omega arith)
numbers_more f g (y ∷ xs) x k counted each here (suc q) below =
    numbers_more f (λ n. g (suc n)) xs x (length xs) refl (λ p less. each (suc p) (omega arith))
    (here ∙ ap g (sym counted)) q (omega arith)

-- an empty list shows nothing, nor does a list of items that show nothing, extended by one such item
pub none_shown : {X Y : Type 0} (f : X → List Y) (xs : List X) → xs ≡ [] → (q : ℕ) → shown_at f xs q ≡ []
none_shown f [] none q = refl
none_shown f (x ∷ xs) none q = cc

pub nothing_more : {X Y : Type 0} (f : X → List Y) (xs : List X) (x : X) → ((q : ℕ) → shown_at f xs q ≡ []) → f x ≡ []
    → (q : ℕ) → shown_at f (xs ++ x ∷ []) q ≡ []
nothing_more f [] x each here zero = here
nothing_more f [] x each here (suc q) = each (suc q)
nothing_more f (y ∷ xs) x each here zero = each zero
nothing_more f (y ∷ xs) x each here (suc q) = nothing_more f xs x (λ p. each (suc p)) here q

-- one item is replaced by another with the same image
pub kept_at : {X Y : Type 0} (f : X → Y) (xs : List X) (i : ℕ) (y x : X) → x ≡ get_or xs i x → f y ≡ f x
    → map f (slice_set xs i y) ≡ map f xs
kept_at f xs i y x value same = map-set_same f xs i y x (same ∙ ap f value)

-- `kept_at` for two images at once
pub both_kept_at : {X Y Z : Type 0} (f : X → Y) (g : X → Z) (xs : List X) (i : ℕ) (y x : X) → x ≡ get_or xs i x
    → f y ≡ f x → g y ≡ g x
    → (map f (slice_set xs i y) ≡ map f xs) × (map g (slice_set xs i y) ≡ map g xs)
both_kept_at f g xs i y x value one two = (kept_at f xs i y x value one, kept_at g xs i y x value two)

-- two equalities chained, in pairs
pub both_kept_still : {A B : Type 0} {a b c : A} {k m n : B} → (c ≡ b) × (n ≡ m) → (b ≡ a) × (m ≡ k) → (c ≡ a) × (n ≡ k)
both_kept_still later before = (later.0 ∙ before.0, later.1 ∙ before.1)

-- an empty list has no item
pub none_there : {X : Type 0} (xs : List X) (n : ℕ) (x : X) → xs ≡ [] → slice_get xs n ≡ Some x → ⊥
none_there [] n x e h = cc
none_there (y ∷ xs) n x e h = cc

-- an index of the images is an index of the items
pub thing_within : {X Y : Type 0} (f : X → Y) (xs : List X) (r : ℕ) (y : Y) → slice_get (map f xs) r ≡ Some y
    → r < length xs
thing_within f xs r y e = let there = thing_at f xs r y e in slice_get_within xs r there.0 there.1

pub thing_is : {X Y : Type 0} (f : X → Y) (xs : List X) (r : ℕ) (y : Y) (x : X) → slice_get (map f xs) r ≡ Some y
    → x ≡ get_or xs r x → slice_get xs r ≡ Some x
thing_is f xs r y x e value = here_is xs r x (thing_within f xs r y e) value

-- the images of items, extended by one
pub mapped_more : {X Y : Type 0} (f : X → Y) (xs : List X) (x : X) (ys zs : List Y) (y : Y) → ys ≡ map f xs
    → zs ≡ ys ++ y ∷ [] → y ≡ f x → zs ≡ map f (xs ++ x ∷ [])
mapped_more f xs x ys zs y before e is = e ∙ ap (λ us. us ++ y ∷ []) before ∙ ap (λ u. map f xs ++ u ∷ []) is
    ∙ sym (map-append f xs (x ∷ []))

-- a property of the ends that are there holds after one more
pub there_more : {X : Type 0} (Q : ℕ → X → Type 0) (xs ys : List (Option X)) (x : X) → ys ≡ xs ++ Some x ∷ []
    → ((n : ℕ) (o : X) → slice_get xs n ≡ Some (Some o) → Q n o) → Q (length xs) x
    → (n : ℕ) (o : X) → slice_get ys n ≡ Some (Some o) → Q n o
there_more {X} Q xs ys x e each here n o h =
    each_more (λ m z. (p : X) → z ≡ Some p → Q m p) xs (Some x) (λ m z at p is. each m p (at ∙ ap (λ u. Some u) is))
    (λ p is. subst (λ u. Q (length xs) u) (Some-injective is) here)
    n (Some o) (ap (λ zs. slice_get zs n) (sym e) ∙ h) o refl

-- an item with a property before others that have it
pub all_front : {X : Type 0} → (P : X → Type 0) (x : X) (xs ys : List X) → ys ≡ x ∷ xs → P x → All P xs → All P ys
all_front P x xs ys e p h = All-same P ys (x ∷ xs) e (All-cons P x xs p h)

-- two lists of equal length still have equal length when each is extended by one
pub counted_more : {X Y : Type 0} (xs : List X) (x : X) (ys zs : List Y) (y : Y) → zs ≡ ys ++ y ∷ []
    → length ys ≡ length xs → length zs ≡ length (xs ++ x ∷ [])
counted_more xs x ys zs y e same = omega (arith, ap length e, length-append ys (y ∷ []), length-append xs (x ∷ []))

-- lists of steps none of which passes a test, extended by one more such list
pub none_more : (test : Step → Bool) (olds news : List (List Step)) (steps : List Step)
    → AllByRecursion (λ steps. list_any test steps ≡ false) olds
    → news ≡ olds ++ steps ∷ [] → list_any test steps ≡ false
    → AllByRecursion (λ steps. list_any test steps ≡ false) news
none_more test olds news steps all grown none =
    subst (AllByRecursion (λ steps. list_any test steps ≡ false)) (sym grown)
    (each-append (λ steps. list_any test steps ≡ false) olds (steps ∷ []) all (none, tt))

-- two lists whose items are related pair by pair, each extended by one
zip_push : {X Y : Type 0} (R : X → Y → Type 0) (xs : List X) (ys : List Y) (x : X) (y : Y) → AllZip R xs ys → R x y
    → AllZip R (xs ++ x ∷ []) (ys ++ y ∷ [])
zip_push R [] [] x y each last = (last, tt)
zip_push R [] (b ∷ ys) x y each last = absurd each
zip_push R (a ∷ xs) [] x y each last = absurd each
zip_push R (a ∷ xs) (b ∷ ys) x y each last = (each.0, zip_push R xs ys x y each.1 last)

pub zip_more : {X Y : Type 0} (R : X → Y → Type 0) (xs : List X) (ys : List Y) (xs' : List X) (ys' : List Y)
    (x : X) (y : Y) → xs' ≡ xs ++ x ∷ [] → ys' ≡ ys ++ y ∷ [] → AllZip R xs ys → R x y → AllZip R xs' ys'
zip_more {X} {Y} R xs ys xs' ys' x y more more' each last =
    subst (λ (us : List X). AllZip R us ys') (sym more)
    (subst (λ (us : List Y). AllZip R (xs ++ x ∷ []) us) (sym more') (zip_push R xs ys x y each last))
