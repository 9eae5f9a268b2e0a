-- Carets one by one.
use Rattle.std.proofs.Common.{◌≡◌, ℕ, suc, ◌+◌, ◌-◌, ◌<◌, List, [], ◌∷◌, ◌++◌, ap, arith, append_assoc}
use Rattle.pb_diagnostics.specs.Texts.{carets}

carets-step : (n i : ℕ) → i < n → carets (n - i) ≡ 94 ∷ carets (n - (i + 1))
carets-step n i l =
    let e : n - i ≡ suc (n - (i + 1)) = omega (arith, l) in
    ap carets e

-- one caret more is written, and one fewer is left
pub one_more : (out : List ℕ) (n i : ℕ) → i < n
    → (out ++ 94 ∷ []) ++ carets (n - (i + 1)) ≡ out ++ carets (n - i)
one_more out n i l = rw (carets-step n i l) (simp append_assoc)
