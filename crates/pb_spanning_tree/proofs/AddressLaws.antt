-- For the loop over addresses.
use Rattle.std.proofs.Common.{◌≡◌, ℕ, suc, ◌+◌, ◌<◌, List, sym, subst, length, get_or, drop, drop-cons, add-one}
use Rattle.std.specs.List.{AllByRecursion}

-- if an entry and all later ones have a property, so do all from that entry on
pub all-from : {A : Type 0} (P : A → Type 0) (xs : List A) (i : ℕ) (x : A) → i < length xs → x ≡ get_or xs i x → P x
    → AllByRecursion P (drop (i + 1) xs) → AllByRecursion P (drop i xs)
all-from {A} P xs i x below is here later =
    let Q : List A → Type 0 = λ ys. AllByRecursion P ys in
    let rest : Q (drop (suc i) xs) = subst (λ k. Q (drop k xs)) (add-one i) later in
    subst Q (sym (drop-cons xs i x below)) (subst P is here, rest)
