-- The classes of a port, and after them the place of the bridge's own BPDUs. For the queues of a port.
use Rattle.std.proofs.Common.{◌≡◌, ℕ, zero, suc, ◌+◌, ◌<◌, Bool, true, false, cond, is_some, Some, List, [], ◌∷◌}
use Rattle.std.proofs.Common.{◌++◌, length, get_or, set, drop, slice_get, refl, ap, ◌∙◌, arith}
use Rattle.pb_lan.specs.declared.step.Item.{Item}
use Rattle.pb_relay.specs.Classes.{number_in, put_in, without_last, first_out, after_first, or_else}

pub number_own : (qs : List (List Item)) (q : List Item) → number_in (qs ++ q ∷ []) ≡ number_in qs + length q
number_own [] q = omega arith
number_own (p ∷ qs) q = omega (arith, number_own qs q)

pub put_own : (qs : List (List Item)) (i : ℕ) (item : Item) (q : List Item) → i < length qs
    → put_in i item (qs ++ q ∷ []) ≡ put_in i item qs ++ q ∷ []
put_own [] i item q l = absurd (omega arith)
put_own (p ∷ qs) zero item q l = refl
put_own (p ∷ qs) (suc i) item q l = ap (λ zs. p ∷ zs) (put_own qs i item q (omega (arith, l)))

pub lost_own : (qs : List (List Item)) (i : ℕ) (q : List Item) → i < length qs
    → without_last i (qs ++ q ∷ []) ≡ without_last i qs ++ q ∷ []
lost_own [] i q l = absurd (omega arith)
lost_own (p ∷ qs) zero q l = refl
lost_own (p ∷ qs) (suc i) q l = ap (λ zs. p ∷ zs) (lost_own qs i q (omega (arith, l)))

pub get_own : (qs : List (List Item)) (i : ℕ) (q : List Item) → i < length qs
    → get_or (qs ++ q ∷ []) i [] ≡ get_or qs i []
get_own [] i q l = absurd (omega arith)
get_own (p ∷ qs) zero q l = refl
get_own (p ∷ qs) (suc i) q l = get_own qs i q (omega (arith, l))

-- the place of the BPDUs comes after the classes
pub own_there : (qs : List (List Item)) (q : List Item) → get_or (qs ++ q ∷ []) (length qs) [] ≡ q
own_there [] q = refl
own_there (p ∷ qs) q = own_there qs q

pub set_own : (qs : List (List Item)) (q r : List Item) → set (qs ++ q ∷ []) (length qs) r ≡ qs ++ r ∷ []
set_own [] q r = refl
set_own (p ∷ qs) q r = ap (λ zs. p ∷ zs) (set_own qs q r)

-- a BPDU in the place of its own leaves first
pub first_own : (qs : List (List Item)) (item : Item) (q : List Item) → first_out (qs ++ (item ∷ q) ∷ []) ≡ Some item
first_own [] item q = refl
first_own (p ∷ qs) item q = ap (λ o. or_else o (slice_get p 0)) (first_own qs item q)

pub rest_own : (qs : List (List Item)) (item : Item) (q : List Item)
    → after_first (qs ++ (item ∷ q) ∷ []) ≡ qs ++ q ∷ []
rest_own [] item q = refl
rest_own (p ∷ qs) item q =
    ap (λ o. cond (is_some o) (p ∷ after_first (qs ++ (item ∷ q) ∷ [])) (drop 1 p ∷ (qs ++ (item ∷ q) ∷ [])))
    (first_own qs item q) ∙ ap (λ zs. p ∷ zs) (rest_own qs item q)

-- without a BPDU there, the classes decide
pub first_none : (qs : List (List Item)) → first_out (qs ++ [] ∷ []) ≡ first_out qs
first_none [] = refl
first_none (p ∷ qs) = ap (λ o. or_else o (slice_get p 0)) (first_none qs)

pub rest_none : (qs : List (List Item)) → after_first (qs ++ [] ∷ []) ≡ after_first qs ++ [] ∷ []
rest_none [] = refl
rest_none (p ∷ qs) =
    ap (λ o. cond (is_some o) (p ∷ after_first (qs ++ [] ∷ [])) (drop 1 p ∷ (qs ++ [] ∷ []))) (first_none qs)
    ∙ by (rest_none qs) (is_some (first_out qs))
  where
    by : after_first (qs ++ [] ∷ []) ≡ after_first qs ++ [] ∷ [] → (b : Bool)
        → cond b (p ∷ after_first (qs ++ [] ∷ [])) (drop 1 p ∷ (qs ++ [] ∷ []))
        ≡ cond b (p ∷ after_first qs) (drop 1 p ∷ qs) ++ [] ∷ []
    by e true = ap (λ zs. p ∷ zs) e
    by e false = refl
