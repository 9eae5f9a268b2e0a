-- Values that are made one after the other.
use Rattle.std.proofs.Common.{◌≡◌, ◌≤◌, ℕ, ◌+◌, ◌<◌, List, [], ◌∷◌, ◌++◌, length, drop, get_or, map}
use Rattle.std.proofs.Common.{sym, ap, ◌∙◌, append_assoc, append-nil, add-one}
use Rattle.std.proofs.Math.Seq.{drop-cons}
use Rattle.std.proofs.lemmas.List.{map_push, drop_all}
use Rattle.serde_json.specs.Data.{Data}
use Rattle.serde_json.specs.View.{view}
use Rattle.serde_json.specs.declared.value.Value.{Value}

-- one more value, for the loops of values.rt
pub values_more : {X : Type 0} (f : X → Data) (xs : List X) (i : ℕ) (d : X) (old new : List Value) (v : Value)
    → i < length xs → view v ≡ f (get_or xs i d)
    → new ≡ old ++ v ∷ [] → map view old ++ map f (drop i xs) ≡ map f xs
    → map view new ++ map f (drop (i + 1) xs) ≡ map f xs
values_more {X} f xs i d old new v below is grown before =
    let step : map f (drop i xs) ≡ f (get_or xs i d) ∷ map f (drop (i + 1) xs) = rw (add-one, drop-cons xs i d) in
    let later = map f (drop (i + 1) xs) in
    rw grown (
    ap (λ (z : List Data). z ++ later) (map_push view old v) ∙ append_assoc (map view old) (view v ∷ []) later
    ∙ ap (λ (z : List Data). map view old ++ z) (ap (λ (z : Data). z ∷ later) is ∙ sym step) ∙ before)

-- all values
pub values_end : {X : Type 0} (f : X → Data) (xs : List X) (i : ℕ) (values : List Value) → length xs ≤ i
    → map view values ++ map f (drop i xs) ≡ map f xs → map view values ≡ map f xs
values_end f xs i values past before =
    sym (append-nil (map view values))
    ∙ ap (λ (z : List Data). map view values ++ z) (sym (ap (map f) (drop_all i xs past))) ∙ before
