-- Texts that are read from the start.
use Rattle.std.proofs.Common.{◌≡◌, ℕ, zero, suc, List, [], ◌∷◌, ◌++◌, flat_map, refl, sym, ap, ◌∙◌, append_assoc}
use Rattle.std.proofs.Common.{append-nil}
use Rattle.std.proofs.lemmas.List.{flat_map_more}
use Rattle.pb_export.specs.Fitting.{spaces}

-- one more element is read
pub text_more : {X : Type 0} (f : X → List ℕ) (xs : List X) (x : X) (text rest later : List ℕ) → text ≡ flat_map f xs
    ++ rest → rest ≡ f x ++ later
    → text ≡ flat_map f (xs ++ x ∷ []) ++ later
text_more f xs x text rest later a b =
    a ∙ ap (λ z. flat_map f xs ++ z) b ∙ sym (append_assoc (flat_map f xs) (f x) later)
    ∙ ap (λ z. z ++ later) (flat_map_more f [] xs x)

-- no text remains
pub text_end : {X : Type 0} (f : X → List ℕ) (xs : List X) (text rest : List ℕ) → text ≡ flat_map f xs ++ rest
    → rest ≡ [] → text ≡ flat_map f xs
text_end f xs text rest a b = a ∙ ap (λ z. flat_map f xs ++ z) b ∙ append-nil (flat_map f xs)

-- one more pair of spaces
pub spaces_more : (n : ℕ) (rest : List ℕ) → spaces n ++ (32 ∷ 32 ∷ rest) ≡ spaces (suc n) ++ rest
spaces_more zero rest = refl
spaces_more (suc n) rest = ap (λ z. 32 ∷ 32 ∷ z) (spaces_more n rest)
