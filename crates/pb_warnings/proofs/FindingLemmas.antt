-- The entries of a list for which a fact holds.
use Rattle.std.proofs.Common.{inl, inr, ℕ, ◌+◌, ◌<◌, List, [], ◌∷◌, ◌++◌, length, take, get_or, refl, ap, sym, subst}
use Rattle.std.proofs.lemmas.List.{take_more}
use Rattle.pb_warnings.specs.Findings.{AreThose, IsAdded}
use Rattle.pb_warnings.specs.declared.warning.Warning.{Warning}

-- one more entry, for which the fact holds
pub those-kept : {X : Type 0} (P : X → Type 0) (xs those : List X) (x : X) → AreThose P xs those → P x
    → AreThose P (xs ++ x ∷ []) (those ++ x ∷ [])
those-kept P [] those x e p = inl (p, ([], ap (λ z. z ++ x ∷ []) e, refl))
those-kept P (y ∷ xs) those x (inl (q, (rest, e, h))) p =
    inl (q, (rest ++ x ∷ [], ap (λ z. z ++ x ∷ []) e, those-kept P xs rest x h p))
those-kept P (y ∷ xs) those x (inr (n, h)) p = inr (n, those-kept P xs those x h p)

-- one more entry, for which it does not hold
pub those-left : {X : Type 0} (P : X → Type 0) (xs those : List X) (x : X) → AreThose P xs those → (P x → ⊥)
    → AreThose P (xs ++ x ∷ []) those
those-left P [] those x e n = inr (n, e)
those-left P (y ∷ xs) those x (inl (q, (rest, e, h))) n = inl (q, (rest, e, those-left P xs rest x h n))
those-left P (y ∷ xs) those x (inr (m, h)) n = inr (m, those-left P xs those x h n)

-- those of the first entries, and of one more
pub those-next : (P : Warning → Type 0) (xs : List Warning) (i : ℕ) (d : Warning) (old new : List Warning)
    → i < length xs → AreThose P (take i xs) old → IsAdded (P (get_or xs i d)) (get_or xs i d) old new
    → AreThose P (take (i + 1) xs) new
those-next P xs i d old new h before (inl (p, e)) =
    subst (λ (zs : List Warning). AreThose P zs new) (sym (take_more xs i d h))
    (subst (AreThose P (take i xs ++ get_or xs i d ∷ [])) (sym e)
    (those-kept P (take i xs) old (get_or xs i d) before p))
those-next P xs i d old new h before (inr (n, e)) =
    subst (λ (zs : List Warning). AreThose P zs new) (sym (take_more xs i d h))
    (subst (AreThose P (take i xs ++ get_or xs i d ∷ [])) (sym e)
    (those-left P (take i xs) old (get_or xs i d) before n))
