-- The message for an invalid line.
use Rattle.std.specs.Prelude.{ℕ, List, [], ◌∷◌, ◌++◌, codes}
use Rattle.std.specs.Fmt.{decimal}

-- the most octets of a line that a command reads, without its LF
abbrev pub longest_line : ℕ
longest_line = 140000

-- the line of this number is not a valid line
abbrev pub bad_line : ℕ → List ℕ
bad_line number = codes "line " ++ decimal number ++ codes ": bad" ++ 10 ∷ []
