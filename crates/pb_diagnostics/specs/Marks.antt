-- The octets of a key, a value or a header.
use Rattle.std.specs.Prelude.{◌≡◌, ◌⊎◌, ℕ, ◌+◌, ◌-◌, ◌==◌, ◌||◌, min, Bool, true, false, List, length, take, drop, IsSome}
use Rattle.toml.specs.Parse.{parse_value}
use Rattle.pb_diagnostics.specs.Lines.{first_line, has_header, position_of, is_rest, code_length, whole_columns, key_columns, value_start}
use Rattle.pb_diagnostics.specs.declared.mark.Part.{Part}
use Rattle.pb_diagnostics.specs.declared.mark.Part.TheVariants.{Whole, Key, Value}
use Rattle.pb_diagnostics.specs.declared.mark.Mark.{Mark}
use Rattle.pb_diagnostics.specs.declared.statement.Statement.{Statement}

-- a whole value ends here, before blanks and a comment
pub record EndsValue (line : List ℕ) (from to : ℕ) : Type 0 where
  pub value : IsSome (parse_value (take (to - from) (drop from line)))
  pub rest : is_rest (drop to line) ≡ true

-- the end of the value, or the end of the line's code if the value goes on
abbrev pub IsEndOfValue : List ℕ → ℕ → ℕ → Type 0
IsEndOfValue line from to = EndsValue line from to ⊎ (to ≡ code_length line)

-- the line has no key and value of its own
abbrev pub has_no_key : List ℕ → Bool
has_no_key line = has_header line || position_of 61 line == length line

-- the beginning and the end of a part of a line with a key and a value
abbrev pub AreKeyed : Part → List ℕ → ℕ × ℕ → Type 0
AreKeyed Whole line p = p ≡ whole_columns line
AreKeyed Key line p = p ≡ key_columns line
AreKeyed Value line p = (p.0 ≡ value_start line) × IsEndOfValue line p.0 p.1

-- the beginning and the end of a part of a line
pub record AreColumns (part : Part) (line : List ℕ) (p : ℕ × ℕ) : Type 0 where
  pub whole : has_no_key line ≡ true → p ≡ whole_columns line
  pub keyed : has_no_key line ≡ false → AreKeyed part line p

-- the octets of a part of the first line of a statement
pub record IsMark (file : List ℕ) (s : Statement) (part : Part) (m : Mark) : Type 0 where
  pub from : ℕ
  pub to : ℕ
  pub columns : AreColumns part (first_line (drop (min s.from (length file)) file)) (from, to)
  pub begins : m.from ≡ min s.from (length file) + from
  pub ends : m.to ≡ min s.from (length file) + to
