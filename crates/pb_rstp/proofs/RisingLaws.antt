-- Numbers that rise strictly.
use Rattle.std.proofs.Common.{ℕ, ◌<◌, List, ◌∷◌, arith}
use Rattle.pb_frame.proofs.Lists.{All-imply}
use Rattle.pb_rstp.specs.Rising.{AreRising}

-- one more number before numbers that rise, if it is less than the first
pub rises-above : (n m : ℕ) → n < m → (ms : List ℕ) → AreRising m ms → AreRising n (m ∷ ms)
rises-above n m l ms r = ((l, All-imply (λ k. m < k) (λ k. n < k) (λ k h. omega (arith, l, h)) ms r.0), r)
