-- Texts with their control characters escaped.
use Rattle.std.specs.Prelude.{◌≡◌, ◌≢◌, ℕ, ◌≤◌, ◌/◌, ◌%◌, ◌==◌, false, if◌then◌else◌}
use Rattle.std.specs.Prelude.{List, [], ◌∷◌, ◌++◌, codes, flat_map}
use Rattle.std.specs.Char.{is_control, encode_utf8}
use Rattle.std.specs.List.{All}
use Rattle.std.specs.Str.{chars}
use Rattle.pb_frame.specs.Hex.{lower_digit}

-- the escape of a control character, whose code is below 256
abbrev pub escape : ℕ → List ℕ
escape c =
    if c == 10 then codes "\\n" else if c == 13 then codes "\\r" else if c == 9 then codes "\\t"
    else codes "\\u00" ++ lower_digit (c / 16) ∷ lower_digit (c % 16) ∷ []

-- a character, or its escape
abbrev pub printed : ℕ → List ℕ
printed c = if is_control c then escape c else encode_utf8 c

-- a text with its control characters escaped
unfoldable pub printable : List ℕ → List ℕ
printable text = flat_map printed (chars text)

-- no octet is a control character
abbrev pub IsOneLine : List ℕ → Type 0
IsOneLine text = All (λ octet. (32 ≤ octet) × (octet ≢ 127)) text

-- no character is a control character
abbrev pub HasNoControl : List ℕ → Type 0
HasNoControl text = All (λ c. is_control c ≡ false) (chars text)
