-- A conversation, command by command (used by `converse`).
use Rattle.std.proofs.Common.{◌≡◌, ℕ, max, List, [], ◌∷◌, ◌++◌, length, Option, Some, None, flat_map, IfSome}
use Rattle.std.specs.Bool.{⊤}
use Rattle.std.proofs.Common.{refl, sym, ap, ◌∙◌, arith, append_assoc, append-nil, length-append}
use Rattle.std.proofs.lemmas.Grind.{flat_map-append}
use Rattle.std.specs.Io.KnownBytes.{Appends, Consumes}
use Rattle.std.proofs.KnownBytes.{Appends-trans, Appends-nil, Consumes-trans, Consumes-nil}
use Rattle.pb_lines.specs.Lines.{cut_lines, GivesLine, HasNoLine}
use Rattle.pb_cmd_control.specs.Answers.{AreAnswers, status_of, status_of_all}
use Rattle.pb_cmd_control.specs.Conversations.{HasConversed, IsPassedOn, PrintsAnswers, sent_line, longest_command}
use Rattle.pb_cmd_control.proofs.AnswerLemmas.{AreAnswers-snoc, status_of_all-snoc}
use Rattle.pb_cmd_control.specs.declared.answer.Verdict.{Verdict}

-- these commands were read, and the remaining ones are those of the held and the unread octets
abbrev pub AreRead : Option (List ℕ) → List ℕ → Option (List ℕ) → List (List ℕ) → Type 0
AreRead None held left commands = ⊤
AreRead (Some octets) held None commands = ⊥
AreRead (Some octets) held (Some rest) commands =
    cut_lines longest_command octets ≡ commands ++ cut_lines longest_command (held ++ rest)

-- a conversation in which some commands have their replies
pub record Conversation (status : ℕ) (held : List ℕ)
    (input left sent sent_now came came_now printed printed_now : Option (List ℕ)) : Type 0 where
  pub commands : List (List ℕ)
  pub verdicts : List Verdict
  pub text : List ℕ
  pub are_read : AreRead input held left commands
  pub all_answered : length verdicts ≡ length commands
  pub are_sent : Appends sent sent_now (flat_map sent_line commands)
  pub are_answers : AreAnswers verdicts text
  pub have_come : Consumes came came_now text
  pub are_printed : Appends printed printed_now text
  pub status_is : status ≡ status_of_all verdicts

none_read : (input : Option (List ℕ)) (held : List ℕ) → held ≡ [] → AreRead input held input []
none_read None held e = tt
none_read (Some octets) held e = ap (λ h. cut_lines longest_command (h ++ octets)) (sym e)

-- before the first command
pub starts : (held : List ℕ) (input sent came printed : Option (List ℕ)) → held ≡ []
    → Conversation 0 held input input sent sent came came printed printed
starts held input sent came printed e = record {
  commands = [];
  verdicts = [];
  text = [];
  are_read = none_read input held e;
  all_answered = refl;
  are_sent = Appends-nil sent;
  are_answers = refl;
  have_come = Consumes-nil came;
  are_printed = Appends-nil printed;
  status_is = refl;
}

one_read : (input mid left : Option (List ℕ)) (held held' command : List ℕ) (commands : List (List ℕ))
    → AreRead input held mid commands → GivesLine longest_command mid held left held' command
    → AreRead input held' left (commands ++ command ∷ [])
one_read None mid left held held' command commands read gives = tt
one_read (Some octets) None left held held' command commands read gives = absurd read
one_read (Some octets) (Some rest) None held held' command commands read gives = absurd gives
one_read (Some octets) (Some rest) (Some rest') held held' command commands read gives =
    read ∙ ap (λ z. commands ++ z) gives
    ∙ sym (append_assoc commands (command ∷ []) (cut_lines longest_command (held' ++ rest')))

-- a command is sent and its reply printed
pub goes_on : (status : ℕ) (verdict : Verdict) (held held' command : List ℕ)
    (input mid left sent sent_now sent_then came came_now came_then printed printed_now printed_then : Option (List ℕ))
    → Conversation status held input mid sent sent_now came came_now printed printed_now
    → GivesLine longest_command mid held left held' command
    → Appends sent_now sent_then (sent_line command)
    → IsPassedOn verdict came_now came_then printed_now printed_then
    → Conversation (max status (status_of verdict)) held' input left sent sent_then came came_then printed printed_then
goes_on status verdict held held' command input mid left sent sent_now sent_then came came_now came_then printed
    printed_now printed_then
    so_far gives is_sent passed = record {
      commands = so_far.commands ++ command ∷ [];
      verdicts = so_far.verdicts ++ verdict ∷ [];
      text = so_far.text ++ passed.text;
      are_read = one_read input mid left held held' command so_far.commands so_far.are_read gives;
      all_answered = omega (
        arith,
        so_far.all_answered,
        length-append so_far.verdicts (verdict ∷ []),
        length-append so_far.commands (command ∷ []),
      );
      are_sent = rw (flat_map-append sent_line so_far.commands (command ∷ []), append-nil (sent_line command))
          (Appends-trans sent sent_now sent_then (flat_map sent_line so_far.commands) (sent_line command)
          so_far.are_sent is_sent);
      are_answers = AreAnswers-snoc so_far.verdicts verdict so_far.text passed.text so_far.are_answers passed.is_answer;
      have_come = Consumes-trans came came_now came_then so_far.text passed.text so_far.have_come passed.has_come;
      are_printed = Appends-trans printed printed_now printed_then so_far.text passed.text so_far.are_printed
          passed.is_printed;
      status_is = ap (λ s. max s (status_of verdict)) so_far.status_is
          ∙ sym (status_of_all-snoc so_far.verdicts verdict);
    }

all_read : (input left : Option (List ℕ)) (held : List ℕ) (commands : List (List ℕ)) → AreRead input held left commands
    → HasNoLine longest_command left held → IfSome input (λ octets. cut_lines longest_command octets ≡ commands)
all_read None left held commands read none = tt
all_read (Some octets) None held commands read none = absurd read
all_read (Some octets) (Some rest) held commands read none = read ∙ ap (λ z. commands ++ z) none ∙ append-nil commands

-- the conversation is complete if no command remains
pub finishes : (status : ℕ) (held : List ℕ) (input left sent sent_now came came_now printed printed_now : Option
    (List ℕ))
    → Conversation status held input left sent sent_now came came_now printed printed_now
    → HasNoLine longest_command left held
    → HasConversed status input sent sent_now came came_now printed printed_now
finishes status held input left sent sent_now came came_now printed printed_now so_far none = record {
  commands = so_far.commands;
  verdicts = so_far.verdicts;
  text = so_far.text;
  all_commands = all_read input left held so_far.commands so_far.are_read none;
  all_answered = so_far.all_answered;
  are_sent = so_far.are_sent;
  are_answers = so_far.are_answers;
  have_come = so_far.have_come;
  are_printed = so_far.are_printed;
  status_is = so_far.status_is;
}

-- before any command, whole replies are printed
pub prints : (status : ℕ) (held : List ℕ) (input left sent sent_now came came_now printed printed_now : Option (List ℕ))
    → Conversation status held input left sent sent_now came came_now printed printed_now
    → PrintsAnswers printed printed_now
prints status held input left sent sent_now came came_now printed printed_now so_far =
    (so_far.verdicts, so_far.text, so_far.are_answers, so_far.are_printed)
