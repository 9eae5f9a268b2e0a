-- The printed form of an error.
use Rattle.std.specs.Prelude.{ℕ, suc, zero, ◌-◌, ◌==◌, ◌||◌, nat_lt, List, [], ◌∷◌, ◌++◌, codes, take, string_bytes, Option, Some, None, if◌then◌else◌}
use Rattle.std.specs.Fmt.{decimal}
use Rattle.std.specs.List.{flat_map}
use Rattle.std.specs.Option.{option_map_or}
use Rattle.pb_printable.specs.Printable.{printable}
use Rattle.pb_diagnostics.specs.Excerpts.{is_first_octet}
use Rattle.pb_diagnostics.specs.declared.excerpt.Excerpt.{Excerpt}
use Rattle.pb_diagnostics.specs.declared.diagnostic.Diagnostic.{Diagnostic}

-- a space for each character of the escape of an octet, or for the character that it begins
abbrev pub pad : ℕ → List ℕ
pad b =
    if b == 9 || b == 10 || b == 13 then codes "  " else if nat_lt b 32 || b == 127 then codes "      "
    else if is_first_octet b then codes " " else []

-- so many carets
abbrev pub carets : ℕ → List ℕ
carets zero = []
carets (suc n) = 94 ∷ carets n

-- the path of a file, with line and column
abbrev pub location : List ℕ → Option Excerpt → List ℕ
location path None = printable path ++ codes ": "
location path (Some e) = printable path ++ codes ":" ++ decimal e.line ++ codes ":" ++ decimal e.column ++ codes ": "

-- the text of a line, and carets under some of its octets
abbrev pub underlined : List ℕ → ℕ → ℕ → List ℕ
underlined [] column width = []
underlined (b ∷ bs) column width =
    codes "    " ++ printable (b ∷ bs) ++ 10 ∷ codes "    " ++ flat_map pad (take (column - 1) (b ∷ bs)) ++ carets width ++ 10 ∷ []

abbrev pub excerpt_text : Excerpt → List ℕ
excerpt_text e = underlined (string_bytes e.text) e.column e.width

-- the line of a hint
abbrev pub hint_line : List ℕ → List ℕ
hint_line hint = codes "hint: " ++ printable hint ++ 10 ∷ []

-- the text of an error in the file at a path
abbrev pub diagnostic_text : List ℕ → Diagnostic → List ℕ
diagnostic_text path d =
    location path d.excerpt ++ printable (string_bytes d.message) ++ 10 ∷ option_map_or excerpt_text d.excerpt []
    ++ option_map_or (λ hint. hint_line (string_bytes hint)) d.hint []
