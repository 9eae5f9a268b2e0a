-- Texts of pairs, appended one after another (used by the loops of `put_losses` and `put_drops`).
use Rattle.std.proofs.Common.{◌≡◌, ◌≤◌, ◌⊎◌, ℕ, ◌+◌, ◌-◌, arith, Bool, List, [], ◌∷◌, ◌++◌, flat_map, refl, sym, ap}
use Rattle.std.proofs.Common.{◌∙◌, ⊎_elim, append_assoc, subst, Err, OnOk}
use Rattle.std.proofs.Common.{append-nil}
use Rattle.std.specs.List.{zip, range_with_len}
use Rattle.std.specs.declared.result.Result.{Result}
use Rattle.pb_lan.specs.declared.plan.BridgePlan.{BridgePlan}
use Rattle.pb_lan.specs.declared.plan.Plan.{Plan}
use Rattle.pb_lan.specs.declared.step.Step.{Step}
use Rattle.pb_run_losses.specs.Drops.{bridge_drops, drops_from}

-- a list and an empty list give no pairs
zip_nil : {A B : Type 0} (xs : List A) → zip {K = A} {X = B} xs [] ≡ []
zip_nil [] = refl
zip_nil (x ∷ xs) = refl

-- the text with that of the next pair, followed by those of the remaining pairs, is the whole
pub pairs_more : {A B : Type 0} (f : A × B → List ℕ) (x : A) (y : B) (xs xs' : List A) (ys ys' : List B)
    (old new whole : List ℕ)
    → xs ≡ x ∷ xs' → ys ≡ y ∷ ys' → new ≡ old ++ f (x, y) → old ++ flat_map f (zip xs ys) ≡ whole
    → new ++ flat_map f (zip xs' ys') ≡ whole
pairs_more f x y xs xs' ys ys' old new whole d e n w =
    ap (λ t. t ++ flat_map f (zip xs' ys')) n ∙ append_assoc old (f (x, y)) (flat_map f (zip xs' ys'))
    ∙ sym (ap (λ ps. old ++ flat_map f (zip ps ys)) d ∙ ap (λ ps. old ++ flat_map f (zip (x ∷ xs') ps)) e) ∙ w

-- the text is the whole if one list is at its end
pub pairs_end : {A B : Type 0} (f : A × B → List ℕ) (xs : List A) (ys : List B) (old whole : List ℕ)
    → (xs ≡ []) ⊎ (ys ≡ []) → old ++ flat_map f (zip xs ys) ≡ whole → old ≡ whole
pairs_end {A = A} {B = B} f xs ys old whole end w =
    let none : zip xs ys ≡ [] = ⊎_elim (λ (e : xs ≡ []). ap (λ (ps : List A). zip ps ys) e)
    (λ (e : ys ≡ []). ap (λ (ps : List B). zip xs ps) e ∙ zip_nil xs) end in
    sym (append-nil old) ∙ sym (ap (λ ps. old ++ flat_map f ps) none) ∙ w

-- the lines of the next bridge, followed by those of the remaining bridges, are the whole
pub drops_more : (plan : Plan) (late lost : Bool) (n : ℕ) (b : BridgePlan) (steps : List Step)
    (xs xs' : List BridgePlan)
    (ys ys' : List (List Step)) (old new whole : List ℕ)
    → xs ≡ b ∷ xs' → ys ≡ steps ∷ ys' → new ≡ old ++ bridge_drops plan late lost n b.name steps
    → old ++ drops_from plan late lost n xs ys ≡ whole → new ++ drops_from plan late lost (n + 1) xs' ys' ≡ whole
drops_more plan late lost n b steps xs xs' ys ys' old new whole d e more w =
    let rest = drops_from plan late lost (n + 1) xs' ys' in
    ap (λ t. t ++ rest) more ∙ append_assoc old (bridge_drops plan late lost n b.name steps) rest
    ∙ sym (ap (λ ps. old ++ drops_from plan late lost n ps ys) d
    ∙ ap (λ ps. old ++ drops_from plan late lost n (b ∷ xs') ps) e) ∙ w

-- bridges without lists have no lines
drops_nil : (plan : Plan) (late lost : Bool) (n : ℕ) (xs : List BridgePlan) → drops_from plan late lost n xs [] ≡ []
drops_nil plan late lost n [] = refl
drops_nil plan late lost n (x ∷ xs) = refl

-- the lines are the whole if no bridge or no list remains
pub drops_end : (plan : Plan) (late lost : Bool) (n : ℕ) (xs : List BridgePlan) (ys : List (List Step))
    (old whole : List ℕ) → (xs ≡ []) ⊎ (ys ≡ []) → old ++ drops_from plan late lost n xs ys ≡ whole → old ≡ whole
drops_end plan late lost n xs ys old whole end w =
    let none : drops_from plan late lost n xs ys ≡ [] = ⊎_elim
    (λ (e : xs ≡ []). ap (λ (ps : List BridgePlan). drops_from plan late lost n ps ys) e)
    (λ (e : ys ≡ []). ap (λ (ps : List (List Step)). drops_from plan late lost n xs ps) e
    ∙ drops_nil plan late lost n xs) end in
    sym (append-nil old) ∙ sym (ap (λ ps. old ++ ps) none) ∙ w

-- the text is the whole if no number remains
pub numbers_end : (f : ℕ → List ℕ) (first k n : ℕ) (old whole : List ℕ) → n ≤ k
    → old ++ flat_map f (range_with_len first (n - k)) ≡ whole → old ≡ whole
numbers_end f first k n old whole end w =
    let none : n - k ≡ 0 = omega (arith, end) in
    sym (append-nil old) ∙ sym (ap (λ m. old ++ flat_map f (range_with_len first m)) none) ∙ w

-- after an error nothing is said of the text
pub no_text : {T E : Type 0} (P : Type 0) (r : Result T E) (e : E) → r ≡ Err e → OnOk r P
no_text P r e failed = subst (λ x. OnOk x P) (sym failed) (tt {0})
