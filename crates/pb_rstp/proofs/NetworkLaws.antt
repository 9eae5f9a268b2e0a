-- For the code that tests whether a network is settled.
use Rattle.std.proofs.Common.{◌≡◌, ℕ, zero, suc, ◌+◌, ◌<◌, List, [], ◌∷◌, refl, sym, ap₂, subst, Bool, true, false}
use Rattle.std.proofs.Common.{◌&&◌, ◌||◌, map, length, get_or, drop, drop-cons, add-one, arith}
use Rattle.std.specs.List.{list_all, AllByRecursion}
use Rattle.std.specs.Option.{option_map}
use Rattle.std.proofs.lemmas.Option.{slice_get-map}
use Rattle.pb_lan.specs.Numbering.{numbered}
use Rattle.pb_rstp.specs.Laws.{IsQuiet}
use Rattle.pb_rstp.specs.Ports.{is_root_or_designated, is_discarding}
use Rattle.pb_rstp.specs.Tree.{is_quiet}
use Rattle.pb_rstp.specs.declared.port.Port.{Port}

-- an entry with a number of a mapped list is the mapped entry
pub numbered-map : {A B : Type 0} (f : A → B) (xs : List A) (k : ℕ)
    → numbered (map f xs) k ≡ option_map f (numbered xs k)
numbered-map f xs zero = refl
numbered-map f xs (suc n) = slice_get-map f xs n

-- a quiet port passes the test of quiet ports
pub quiet_test : (p : Port) → IsQuiet p → is_quiet p ≡ true
quiet_test p h = by_test (is_root_or_designated p.role) h
  where
    by_test : (t : Bool) → (t ≡ false → is_discarding p.state ≡ true) → (t || is_discarding p.state) ≡ true
    by_test true h = refl
    by_test false h = h refl

-- quiet ports all pass it
pub quiet_tests : (ps : List Port) → AllByRecursion IsQuiet ps → list_all is_quiet ps ≡ true
quiet_tests [] h = refl
quiet_tests (p ∷ ps) h = ap₂ (λ a b. a && b) (quiet_test p h.0) (quiet_tests ps h.1)

-- for the loop over bridges: if an entry and all later ones have a property, so do all from that entry on
pub all-front : {A B : Type 0} (P : B → Type 0) (f : A → B) (xs : List A) (i : ℕ) (x : A) → i < length xs
    → x ≡ get_or xs i x → P (f x)
    → AllByRecursion P (map f (drop (i + 1) xs)) → AllByRecursion P (map f (drop i xs))
all-front {A} P f xs i x below is here rest =
    let Q : List A → Type 0 = λ ys. AllByRecursion P (map f ys) in
    let R : A → Type 0 = λ y. P (f y) in
    let rest' : Q (drop (suc i) xs) = subst (λ k. Q (drop k xs)) (add-one i) rest in
    subst Q (sym (drop-cons xs i x below)) (subst R is here, rest')

-- for the loop over bridges: an entry of a list whose entries all have a property has it
pub all-item : {A B : Type 0} (P : B → Type 0) (f : A → B) (xs : List A) (i : ℕ) (x : A) → i < length xs
    → x ≡ get_or xs i x
    → AllByRecursion P (map f xs) → P (f x)
all-item P f [] i x below is all = absurd (omega arith)
all-item {A} P f (y ∷ ys) zero x below is all = let R : A → Type 0 = λ z. P (f z) in subst R (sym is) all.0
all-item P f (y ∷ ys) (suc i) x below is all = all-item P f ys i x (omega arith) is all.1
