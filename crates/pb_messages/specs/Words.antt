-- The arguments of a line.
use Rattle.std.specs.Prelude.{ℕ, ◌+◌, ◌-◌, ◌*◌, ◌≢◌, ◌<◌, nat_le, ◌==◌, Bool, ◌&&◌, if◌then◌else◌, List, [], ◌∷◌, Option, Some, None, length, slice_index, take, drop}
use Rattle.std.specs.List.{position}
use Rattle.std.specs.Option.{option_map}

-- the texts before and after the first space
abbrev pub cut : List ℕ → Option (List ℕ × List ℕ)
cut text = option_map (λ i. (take i text, drop (i + 1) text)) (position (λ c. c == 32) text)

-- no octet is a space
abbrev pub HasNoSpace : List ℕ → Type 0
HasNoSpace text = (k : ℕ) → k < length text → slice_index text k ≢ 32

abbrev pub is_decimal : ℕ → Bool
is_decimal c = nat_le 48 c && nat_le c 57

-- a first digit: not 0
abbrev pub is_first : ℕ → Bool
is_first c = nat_le 49 c && nat_le c 57

-- the number of a port: one to three decimal digits, the first not 0
abbrev pub port_of : List ℕ → Option ℕ
port_of (a ∷ []) = if is_first a then Some (a - 48) else None
port_of (a ∷ b ∷ []) = if is_first a && is_decimal b then Some ((a - 48) * 10 + (b - 48)) else None
port_of (a ∷ b ∷ c ∷ []) = if is_first a && is_decimal b && is_decimal c then Some ((a - 48) * 100 + (b - 48) * 10 + (c - 48)) else None
port_of text = None

-- the local port of a bridge, 1 to 16; a number above 16 gives 0, which is no port
abbrev pub local_port : ℕ → ℕ
local_port n = if nat_le n 16 then n else 0
