-- The events of one bridge, gathered one after the other.
use Rattle.std.proofs.Common.{◌≡◌, ◌∙◌, ℕ, ◌+◌, ◌<◌, Bool, true, false, List, [], ◌∷◌, ◌++◌, length, get_or, take, ap}
use Rattle.std.proofs.lemmas.List.{take_more, append-nil}
use Rattle.std.proofs.lemmas.List.Elements.{filter-append}
use Rattle.std.specs.List.{filter}

-- an event that passes the test is appended
pub taken : {X : Type 0} (p : X → Bool) (xs own new : List X) (i : ℕ) (d : X) → i < length xs
    → own ≡ filter p (take i xs) → p (get_or xs i d) ≡ true
    → new ≡ own ++ get_or xs i d ∷ [] → new ≡ filter p (take (i + 1) xs)
taken p xs own new i d h same holds more =
    rw (take_more xs i d h, filter-append p (take i xs) (get_or xs i d ∷ []), holds)
    (more ∙ ap (λ z. z ++ get_or xs i d ∷ []) same)

-- an event that fails the test is left out
pub left_out : {X : Type 0} (p : X → Bool) (xs own new : List X) (i : ℕ) (d : X) → i < length xs
    → own ≡ filter p (take i xs) → p (get_or xs i d) ≡ false
    → new ≡ own → new ≡ filter p (take (i + 1) xs)
left_out p xs own new i d h same fails equal =
    rw (
      take_more xs i d h,
      filter-append p (take i xs) (get_or xs i d ∷ []),
      fails,
      append-nil
          (filter p (take i xs)),
    ) (equal ∙ same)
