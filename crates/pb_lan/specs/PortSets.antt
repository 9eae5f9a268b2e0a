-- Sets of local ports as bits.
use Rattle.std.specs.Prelude.{ℕ, zero, suc, ◌+◌, ◌*◌, ◌<◌, ◌≤◌, ◌/◌, ◌%◌, ◌==◌, List, [], ◌∷◌, ◌++◌, cond}
use Rattle.std.specs.List.{AllByRecursion}
use Rattle.pb_lan.specs.declared.step.NoRoom.{NoRoom}
use Rattle.pb_lan.specs.declared.step.NoRoom.TheVariants.{Full, Memory}

-- the ports whose bits are set, of so many ports from this one on, with the lowest bit for this port
unfoldable pub ports_in : ℕ → ℕ → ℕ → List ℕ
ports_in zero port bits = []
ports_in (suc count) port bits = cond (bits % 2 == 1) (port ∷ []) [] ++ ports_in count (port + 1) (bits / 2)

-- what the two bits of a port mean: 0 not refused, 1 a full queue, and else out of memory
abbrev pub word_in : ℕ → ℕ → List (ℕ × NoRoom)
word_in port zero = []
word_in port (suc zero) = (port, Full) ∷ []
word_in port (suc (suc other)) = (port, Memory) ∷ []

-- a number that is different for each port and cause
abbrev pub refusal_code : (ℕ × NoRoom) → ℕ
refusal_code (port, Full) = 2 * port
refusal_code (port, Memory) = 2 * port + 1

-- the refused ports and their causes, of so many ports from this one on, with the lowest two bits for this port
unfoldable pub refusals_in : ℕ → ℕ → ℕ → List (ℕ × NoRoom)
refusals_in zero port words = []
refusals_in (suc count) port words = word_in port (words % 4) ++ refusals_in count (port + 1) (words / 4)

-- local ports in strictly ascending order, all above this number
abbrev pub AreAscending : ℕ → List ℕ → Type 0
AreAscending low [] = Unit {0}
AreAscending low (p ∷ ps) = (low < p) × (p ≤ 16) × AreAscending p ps

-- a local port that is higher than all of these
pub record ComesAfter (ports : List ℕ) (port : ℕ) : Type 0 where
  pub first : 1 ≤ port
  pub last : port ≤ 16
  pub after : AllByRecursion (λ p. p < port) ports
