-- One line of a TOML text.
use Rattle.std.specs.Prelude.{ℕ, ◌+◌, ◌-◌, ◌==◌, ◌||◌, ◌&&◌, not, Bool, List, [], ◌∷◌, length, reverse, take, drop, take_while, nat_lt, get_or, unwrap_or}
use Rattle.std.specs.List.{list_any, position}

-- a space, a tab or a carriage return
abbrev pub is_blank : ℕ → Bool
is_blank b = list_any (λ x. b == x) (32 ∷ 9 ∷ 13 ∷ [])

-- the blanks at the beginning
abbrev pub indent : List ℕ → ℕ
indent line = length (take_while is_blank line)

-- the length without the blanks at the end
abbrev pub code_length : List ℕ → ℕ
code_length line = length line - indent (reverse line)

-- the index of the first octet of this value, or the length
abbrev pub position_of : ℕ → List ℕ → ℕ
position_of octet line = unwrap_or (position (λ b. b == octet) line) (length line)

-- the octets up to the first of this value
abbrev pub before : ℕ → List ℕ → List ℕ
before octet line = take (position_of octet line) line

-- the octets up to the line feed, without the blanks at their end
abbrev pub first_line : List ℕ → List ℕ
first_line text = take (code_length (before 10 text)) (before 10 text)

-- the line begins with this octet, apart from blanks
abbrev pub begins : ℕ → List ℕ → Bool
begins octet line = nat_lt (indent line) (length line) && get_or line (indent line) 0 == octet

-- the line is the header of a table
abbrev pub has_header : List ℕ → Bool
has_header line = begins 91 line

-- only blanks and a comment
abbrev pub is_rest : List ℕ → Bool
is_rest rest = not (nat_lt (indent rest) (length rest)) || get_or rest (indent rest) 0 == 35

-- the line without blanks and without what follows a number sign
abbrev pub whole_columns : List ℕ → ℕ × ℕ
whole_columns line = (indent line, code_length (before 35 line))

-- the key, which ends before the equals sign
abbrev pub key_columns : List ℕ → ℕ × ℕ
key_columns line = (indent line, code_length (before 61 line))

-- the beginning of the value, after the equals sign
abbrev pub value_start : List ℕ → ℕ
value_start line = position_of 61 line + 1 + indent (drop (position_of 61 line + 1) line)
