-- Lists whose things move to another list one by one.
use Rattle.std.proofs.Common.{◌≡◌, List, [], ◌∷◌, ◌++◌, map, ap, sym, ◌∙◌, append_assoc}
use Rattle.std.proofs.lemmas.List.{map-append}

-- one more thing moves, and what is compared of it stays the same (used by the loops over ports)
pub moved_over : {X Y Z : Type 0} (f : X → Z) (xs ys : List X) (x : X) (g : Y → Z) (rest left : List Y) (y : Y)
    (all : List Z)
    → map f xs ++ map g rest ≡ all → ys ≡ xs ++ x ∷ [] → rest ≡ y ∷ left → f x ≡ g y → map f ys ++ map g left ≡ all
moved_over f xs ys x g rest left y all before grown next same =
    ap (λ zs. map f zs ++ map g left) grown ∙ ap (λ zs. zs ++ map g left) (map-append f xs (x ∷ []))
    ∙ append_assoc (map f xs) (f x ∷ []) (map g left)
    ∙ ap (λ z. map f xs ++ z ∷ map g left) same ∙ ap (λ zs. map f xs ++ map g zs) (sym next) ∙ before
