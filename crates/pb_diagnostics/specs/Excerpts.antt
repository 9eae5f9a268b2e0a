-- Lines of a text, and the octets of them that are meant.
use Rattle.std.specs.Prelude.{◌≡◌, ℕ, ◌+◌, ◌-◌, ◌==◌, ◌||◌, not, nat_lt, nat_le, Bool, List, length, take, drop, take_while, reverse, count_by, min, max, slice_range, string_bytes}
use Rattle.std.specs.Str.{IsUtf8}
use Rattle.pb_diagnostics.specs.Lines.{first_line}
use Rattle.pb_diagnostics.specs.declared.mark.Mark.{Mark}
use Rattle.pb_diagnostics.specs.declared.excerpt.Excerpt.{Excerpt}

-- the octet is the first one of a character in UTF-8
abbrev pub is_first_octet : ℕ → Bool
is_first_octet b = nat_lt b 128 || nat_le 192 b

-- the number of characters of a text
abbrev pub characters : List ℕ → ℕ
characters text = count_by is_first_octet text

-- the length of the last line of a text
abbrev pub last_length : List ℕ → ℕ
last_length text = length (take_while (λ b. not (b == 10)) (reverse text))

-- the line and the column of the octet after these, both from 1
abbrev pub line_after : List ℕ → ℕ
line_after text = count_by (λ b. b == 10) text + 1

abbrev pub column_after : List ℕ → ℕ
column_after text = last_length text + 1

-- the line of the octet at an index
abbrev pub line_at : List ℕ → ℕ → List ℕ
line_at file at = first_line (drop (at - last_length (take at file)) file)

-- where marked octets begin and end in the file
abbrev pub start_in : List ℕ → Mark → ℕ
start_in file m = min m.from (length file)

abbrev pub end_in : List ℕ → Mark → ℕ
end_in file m = max (min m.to (length file)) (start_in file m)

-- the excerpt of marked octets: line and column of the first one, the characters up to the end of the line, the line
pub record IsExcerpt (file : List ℕ) (m : Mark) (e : Excerpt) : Type 0 where
  pub line : e.line ≡ line_after (take (start_in file m) file)
  pub column : e.column ≡ column_after (take (start_in file m) file)
  pub width : e.width ≡ max (characters (first_line (slice_range file (start_in file m) (end_in file m)))) 1
  pub text : IsUtf8 (line_at file (start_in file m)) → string_bytes e.text ≡ line_at file (start_in file m)
