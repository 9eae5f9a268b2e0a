-- Lists of machines that are read one after the other.
use Rattle.std.proofs.Common.{◌≡◌, ◌<◌, ◌+◌, ℕ, List, [], ◌∷◌, ◌++◌, length, map, take, slice_index_or, sym, ap}
use Rattle.std.proofs.Common.{subst, ◌∙◌}
use Rattle.std.proofs.lemmas.List.{length-map, take_more, get_or-map}

-- one element more of a list to which a function is applied
mapped-more : {X Y : Type 0} (f : X → Y) (xs : List X) (i : ℕ) (x : X) → i < length xs → x ≡ slice_index_or xs i x
    → take (i + 1) (map f xs) ≡ take i (map f xs) ++ f x ∷ []
mapped-more f xs i x within is =
    let within_map : i < length (map f xs) = subst (λ n. i < n) (sym (length-map xs f)) within in
    take_more (map f xs) i (f x) within_map
    ∙ ap (λ y. take i (map f xs) ++ y ∷ []) (get_or-map f xs i x (f x) within ∙ ap f (sym is))

-- one more element that is the same in both lists
pub same-more : {X Y : Type 0} (f : X → Y) (xs : List X) (ys : List Y) (i : ℕ) (x : X) (y : Y) → i < length xs
    → i < length ys → take i (map f xs) ≡ take i ys → x ≡ slice_index_or xs i x → y ≡ slice_index_or ys i y → f x ≡ y
    → take (i + 1) (map f xs) ≡ take (i + 1) ys
same-more f xs ys i x y within_xs within_ys before x_is y_is same =
    mapped-more f xs i x within_xs x_is
    ∙ ap (λ z. take i (map f xs) ++ z ∷ []) same
    ∙ ap (λ zs. zs ++ y ∷ []) before
    ∙ sym (take_more ys i y within_ys ∙ ap (λ z. take i ys ++ z ∷ []) (sym y_is))

-- one more copy of an element
pub copies-more : {X Y : Type 0} (f : X → Y) (xs : List X) (copies : List Y) (i : ℕ) (x : X) (copy : Y)
    → i < length xs → copies ≡ take i (map f xs) → x ≡ slice_index_or xs i x → copy ≡ f x
    → copies ++ copy ∷ [] ≡ take (i + 1) (map f xs)
copies-more f xs copies i x copy within before x_is same =
    ap (λ zs. zs ++ copy ∷ []) before
    ∙ ap (λ z. take i (map f xs) ++ z ∷ []) same
    ∙ sym (mapped-more f xs i x within x_is)
