-- The results of a search for the next line.
use Rattle.std.specs.Prelude.{ℕ, List, Option}
use Rattle.pb_lines.specs.Lines.{GivesLine, HasNoLine}
use Rattle.pb_lines.specs.declared.Found.{Found}
use Rattle.pb_lines.specs.declared.Found.TheVariants.{Line, Last, End}

-- the result is right for the octets that are held and those that remain: a line, the last line, or none
abbrev pub Finds : Found → ℕ → Option (List ℕ) → List ℕ → Option (List ℕ) → List ℕ → List ℕ → Type 0
Finds Line limit old front new back line = GivesLine limit old front new back line
Finds Last limit old front new back line = GivesLine limit old front new back line × HasNoLine limit new back
Finds End limit old front new back line = HasNoLine limit old front
