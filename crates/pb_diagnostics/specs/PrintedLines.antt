-- Lines without control characters.
use Rattle.std.specs.Prelude.{◌≡◌, ℕ, List, [], ◌∷◌, ◌++◌, flat_map}
use Rattle.std.specs.List.{All}
use Rattle.pb_printable.specs.Printable.{IsOneLine}

-- the lines, with a line feed after each
abbrev pub ended : List (List ℕ) → List ℕ
ended lines = flat_map (λ line. line ++ 10 ∷ []) lines

-- the text is some lines without control characters
pub record ArePrintedLines (text : List ℕ) : Type 0 where
  pub lines : List (List ℕ)
  pub printed : All IsOneLine lines
  pub text_is : text ≡ ended lines
