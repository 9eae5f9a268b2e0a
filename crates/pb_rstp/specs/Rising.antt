-- Numbers that rise strictly.
use Rattle.std.specs.Prelude.{ℕ, List, ◌∷◌}
use Rattle.pb_frame.specs.Lists.{Rises}

-- the numbers rise strictly, and each is above n
abbrev pub AreRising : ℕ → List ℕ → Type 0
AreRising n ms = Rises (n ∷ ms)
