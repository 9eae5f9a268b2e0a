-- Ports at which nothing is due.
use Rattle.std.proofs.Common.{◌+◌, ℕ, inl, inr, sym, subst, arith}
use Rattle.std.proofs.lemmas.Bool.{cases_eq}
use Rattle.pb_lan.specs.Plans.{IsNumber}

-- what holds of the ports up to one, and of the next one
pub quiet-more : (P : ℕ → Type 0) (k : ℕ) → ((port : ℕ) → IsNumber port k → P port) → P (k + 1)
    → (port : ℕ) → IsNumber port (k + 1) → P port
quiet-more P k before one port range = elim (cases_eq port (k + 1)) [
  | inl e ↦ subst P (sym e) one
  | inr ne ↦ before port (range.0, omega (arith, range.1, ne))
]
