-- Scripts that are tests: comments, expectations and findings.
use Rattle.std.specs.Prelude.{◌≡◌, ◌≢◌, ℕ, ◌-◌, ◌<◌, ◌≤◌, ◌==◌, Bool, true, List, [], ◌∷◌, ◌++◌, Some, length, take, codes}
use Rattle.std.specs.Fmt.{decimal}
use Rattle.pb_step_script.specs.Answers.{no_such_line}
use Rattle.pb_messages.specs.BadLines.{bad_line}
use Rattle.pb_messages.specs.Words.{cut}

-- an empty line and a line that begins with `#`
abbrev pub is_comment : List ℕ → Bool
is_comment [] = true
is_comment (c ∷ rest) = c == 35

-- `expect ANSWER`, with this answer of at least one octet
pub record Expects (limit : ℕ) (line wanted : List ℕ) : Type 0 where
  pub short : length line ≤ limit
  pub parts : cut line ≡ Some (codes "expect", wanted)
  pub some : 0 < length wanted

-- the notes of a test: the latest answer without its LF, empty before the first one, and the lines of the findings
pub record Notes : Type 0 where
  pub answer : List ℕ
  pub findings : List ℕ

abbrev pub no_notes : Notes
no_notes = record { answer = []; findings = [] }

-- the answer in a finding
abbrev pub got_words : List ℕ → List ℕ
got_words [] = codes "no answer"
got_words (c ∷ answer) = c ∷ answer

-- line n expected another answer than the latest one
abbrev pub difference : ℕ → List ℕ → List ℕ → List ℕ
difference n wanted got = codes "line " ++ decimal n ++ codes ": wanted " ++ wanted ++ codes ", got " ++ got_words got ++ 10 ∷ []

-- an expectation of line n: a difference is a finding
pub data Compares (n : ℕ) (wanted : List ℕ) (old new : Notes) : Type 0 where
  same : wanted ≡ old.answer → new ≡ old → Compares n wanted old new
  differs : wanted ≢ old.answer → new.answer ≡ old.answer → new.findings ≡ old.findings ++ difference n wanted old.answer → Compares n wanted old new

abbrev pub without_end : List ℕ → List ℕ
without_end text = take (length text - 1) text

-- an answer with the number of its line before it
abbrev pub numbered_line : ℕ → List ℕ → List ℕ
numbered_line n text = codes "line " ++ decimal n ++ codes ": " ++ text

-- the finding of an answer to line n, if there is one
pub data FindsAnswer (n : ℕ) (text finding : List ℕ) : Type 0 where
  absent : text ≡ no_such_line → finding ≡ numbered_line n text → FindsAnswer n text finding
  bad : text ≡ bad_line n → finding ≡ text → FindsAnswer n text finding
  good : text ≢ no_such_line → text ≢ bad_line n → finding ≡ [] → FindsAnswer n text finding

-- the answer to line n becomes the latest one
pub record NotesAnswer (n : ℕ) (text : List ℕ) (old new : Notes) : Type 0 where
  pub answer : new.answer ≡ without_end text
  pub finding : List ℕ
  pub is_finding : FindsAnswer n text finding
  pub findings : new.findings ≡ old.findings ++ finding

-- the exit status of a test with these findings
abbrev pub test_status : List ℕ → ℕ
test_status [] = 0
test_status (c ∷ findings) = 4
