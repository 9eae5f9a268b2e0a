-- The header to which the path of a key leads.
use Rattle.std.specs.Prelude.{ℕ, ◌+◌, ◌-◌, ◌*◌, codes, Bool, false, nat_eq, nat_le, ◌==◌, ◌&&◌, ◌||◌, List, [], ◌∷◌, take, drop, Option, Some, None, unwrap_or, if◌then◌else◌}
use Rattle.std.specs.List.{list_any, position, starts_with}
use Rattle.std.specs.Option.{option_and_then, option_map}
use Rattle.pb_frame.specs.Admission.{same}

-- a decimal digit
abbrev pub is_digit : ℕ → Bool
is_digit c = nat_le 48 c && nat_le c 57

-- a word that is a TOML value by itself, or begins as a number does
abbrev pub is_value : List ℕ → Bool
is_value [] = false
is_value (b ∷ rest) =
    (is_digit b || b == 45) || list_any (λ value. same (b ∷ rest) value) (codes "true" ∷ codes "false" ∷ codes "inf" ∷ codes "nan" ∷ [])

-- the number that one to three digits denote
abbrev pub number_in : List ℕ → Option ℕ
number_in (a ∷ []) = if is_digit a then Some (a - 48) else None
number_in (a ∷ b ∷ []) = if is_digit a && is_digit b then Some ((a - 48) * 10 + (b - 48)) else None
number_in (a ∷ b ∷ c ∷ []) = if is_digit a && is_digit b && is_digit c then Some ((a - 48) * 100 + (b - 48) * 10 + (c - 48)) else None
number_in text = None

-- the text before the first octet with this value, and the text after it
abbrev pub parted : ℕ → List ℕ → Option (List ℕ × List ℕ)
parted mark text = option_map (λ at. (take at text, drop (at + 1) text)) (position (λ b. b == mark) text)

-- WORD and N of `WORD[N].KEY`
abbrev pub row_in : List ℕ → Option (List ℕ × ℕ)
row_in path = option_and_then (λ p. option_and_then (λ q. option_map (λ n. (p.0, n)) (number_in q.0)) (parted 93 p.1)) (parted 91 path)

-- the word of the header and the number of earlier ones: for `network.KEY` the first `network`, for `WORD[N].KEY` the
-- one after N others, and for a key at the top the first header with the key itself
abbrev pub place_in : List ℕ → List ℕ × ℕ
place_in path = if starts_with nat_eq path (codes "network.") then (codes "network", 0) else unwrap_or (row_in path) (path, 0)
