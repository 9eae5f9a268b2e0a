-- The output of a bridge for lines.
use Rattle.std.specs.Prelude.{◌≡◌, ◌≢◌, ℕ, suc, ◌≤◌, List, [], ◌∷◌, ◌++◌, length}
use Rattle.pb_lan.specs.declared.step.Step.{Step}
use Rattle.pb_lines.specs.Lines.{lines_of}
use Rattle.pb_cmd_flat.specs.Receipts.{Receipt, receipts}
use Rattle.pb_cmd_flat.specs.Switches.{IsFlatPast}
use Rattle.pb_cmd_flat.specs.Texts.{answer_text}
use Rattle.pb_messages.specs.BadLines.{bad_line}
use Rattle.pb_cmd_flat.specs.Words.{IsFrameLine}

-- the output of line n, which is nothing for an empty line, the lines for its frame if it brings one, and otherwise
-- `line N: bad`
pub data Answer (limit ports n : ℕ) (line : List ℕ) (old new : List Receipt) (text : List ℕ) : Type 0 where
  blank : line ≡ [] → new ≡ old → text ≡ [] → Answer limit ports n line old new text
  frame : (r : Receipt) → IsFrameLine limit ports line r.port r.wire → new ≡ old ++ r ∷ [] → text ≡ answer_text r → Answer limit ports n line old new text
  bad : line ≢ [] → ((port : ℕ) (octets : List ℕ) → IsFrameLine limit ports line port octets → ⊥) → new ≡ old → text ≡ bad_line n → Answer limit ports n line old new text

-- the output of the lines from line n on
abbrev pub Answers : ℕ → ℕ → ℕ → List (List ℕ) → List Receipt → List Receipt → List ℕ → Type 0
Answers limit ports n [] old new text = (new ≡ old) × (text ≡ [])
Answers limit ports n (line ∷ lines) old new text =
    (mid : List Receipt) × (front : List ℕ) × (back : List ℕ) × Answer limit ports n line old mid front × Answers limit ports (suc n) lines mid new back × (text ≡ front ++ back)

-- the whole output for an input, which some lawful past of the bridge explains
abbrev pub IsFlatText : ℕ → ℕ → List ℕ → List ℕ → Type 0
IsFlatText limit ports input text =
    (steps : List Step) × IsFlatPast ports steps × Answers limit ports 1 (lines_of input) [] (receipts steps) text

-- the output for the first lines of an input, which bring at least so many frames
abbrev pub IsFlatBeginning : ℕ → ℕ → ℕ → List ℕ → List ℕ → Type 0
IsFlatBeginning least limit ports input text =
    (front : List (List ℕ)) × (back : List (List ℕ)) × (lines_of input ≡ front ++ back)
    × (steps : List Step) × IsFlatPast ports steps × Answers limit ports 1 front [] (receipts steps) text × (least ≤ length (receipts steps))
