-- The octets that a conversation with a control socket has sent, received and printed.
use Rattle.std.specs.Prelude.{◌≡◌, ℕ, List, [], ◌∷◌, ◌++◌, length, flat_map, Option, IfSome}
use Rattle.std.specs.Io.KnownBytes.{Appends, Consumes}
use Rattle.pb_lines.specs.Lines.{cut_lines}
use Rattle.pb_cmd_control.specs.Answers.{IsAnswer, AreAnswers, status_of_all}
use Rattle.pb_cmd_control.specs.declared.answer.Verdict.{Verdict}

-- the maximum length of a command (a longer line is sent with one octet more)
abbrev pub longest_command : ℕ
longest_command = 256

-- a command as it is sent, with its line feed
abbrev pub sent_line : List ℕ → List ℕ
sent_line command = command ++ 10 ∷ []

-- a reply came, and exactly this was printed
pub record IsPassedOn (verdict : Verdict) (came came_after printed printed_after : Option (List ℕ)) : Type 0 where
  pub text : List ℕ
  pub is_answer : IsAnswer verdict text
  pub has_come : Consumes came came_after text
  pub is_printed : Appends printed printed_after text

-- whole replies were printed, and nothing else
abbrev pub PrintsAnswers : Option (List ℕ) → Option (List ℕ) → Type 0
PrintsAnswers printed printed_after =
    (verdicts : List Verdict) × (text : List ℕ) × AreAnswers verdicts text × Appends printed printed_after text

-- each line of the input was sent and got its reply, exactly these replies came and were printed, and the status is
-- theirs
pub record HasConversed (status : ℕ)
    (input sent sent_after came came_after printed printed_after : Option (List ℕ)) : Type 0 where
  pub commands : List (List ℕ)
  pub verdicts : List Verdict
  pub text : List ℕ
  pub all_commands : IfSome input (λ octets. cut_lines longest_command octets ≡ commands)
  pub all_answered : length verdicts ≡ length commands
  pub are_sent : Appends sent sent_after (flat_map sent_line commands)
  pub are_answers : AreAnswers verdicts text
  pub have_come : Consumes came came_after text
  pub are_printed : Appends printed printed_after text
  pub status_is : status ≡ status_of_all verdicts
