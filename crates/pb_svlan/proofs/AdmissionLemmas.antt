-- A frame is refused exactly if it is not admitted, for `enter`.
use Rattle.std.proofs.Common.{◌≡◌, ℕ, Bool, true, false, not, List, [], ◌∷◌, None, refl, ap}
use Rattle.std.specs.List.{list_any}
use Rattle.pb_frame.specs.Admission.{is_admitted, refusal, admission_cases, first_reason}
use Rattle.pb_frame.specs.declared.reason.Reason.{Reason}

-- `first_reason` finds no reason only if no condition is true
none-first : (cs : List (Bool × Reason)) → first_reason cs ≡ None → list_any (λ c. c.0) cs ≡ false
none-first [] h = refl
none-first ((true, r) ∷ cs) h = cc
none-first ((false, r) ∷ cs) h = none-first cs h

first-none : (cs : List (Bool × Reason)) → not (list_any (λ c. c.0) cs) ≡ true → first_reason cs ≡ None
first-none [] h = refl
first-none ((true, r) ∷ cs) h = cc
first-none ((false, r) ∷ cs) h = first-none cs h

pub admitted-unrefused : (x : List ℕ) → refusal x ≡ None → is_admitted x ≡ true
admitted-unrefused x h = ap not (none-first (admission_cases x) h)

pub refusal-admitted : (x : List ℕ) → is_admitted x ≡ true → refusal x ≡ None
refusal-admitted x h = first-none (admission_cases x) h
