-- The output of a script in a mode: of its events alone, or as a test.
use Rattle.std.specs.Prelude.{◌≡◌, ℕ, suc, true, false, List, [], ◌∷◌, ◌++◌, Option, Some, None, IfSome, ⊤, length}
use Rattle.std.specs.Io.KnownBytes.{Appends}
use Rattle.pb_lan.specs.Records.{IsLawfulRecord}
use Rattle.pb_relay.specs.Protocol.{spanning_tree}
use Rattle.pb_lan.specs.declared.plan.Plan.{Plan}
use Rattle.pb_lines.specs.Lines.{lines_of, cut_lines}
use Rattle.pb_net.specs.Answers.{NetView}
use Rattle.pb_messages.specs.declared.fault.CommandFault.{CommandFault}
use Rattle.pb_messages.specs.declared.fault.CommandFault.TheVariants.{Steps}
use Rattle.pb_cmd_step.specs.declared.testing.Mode.{Mode}
use Rattle.pb_cmd_step.specs.declared.testing.Mode.TheVariants.{Script, Test}
use Rattle.pb_cmd_step.specs.Steps.{StepAnswer, IsReport, IsAtLimit, MayFollow, start_of}
use Rattle.pb_cmd_step.specs.Tests.{Notes, is_comment, Expects, Compares, NotesAnswer}

-- a network and the notes of its test
pub record TestView : Type 0 where
  pub net : NetView
  pub notes : Notes

abbrev pub noted : NetView → Notes → TestView
noted net notes = record { net = net; notes = notes }

-- the output of line n of a test: comments and expectations have none and leave the network as it is
pub data TestAnswer (limit n : ℕ) (line : List ℕ) (old new : TestView) (text : List ℕ) : Type 0 where
  comment : is_comment line ≡ true → new ≡ old → text ≡ [] → TestAnswer limit n line old new text
  expectation : (wanted : List ℕ) → is_comment line ≡ false → Expects limit line wanted → new.net ≡ old.net → Compares n wanted old.notes new.notes → text ≡ []
      → TestAnswer limit n line old new text
  asked : is_comment line ≡ false → ((wanted : List ℕ) → Expects limit line wanted → ⊥) → StepAnswer limit n line old.net new.net text
      → NotesAnswer n text old.notes new.notes → TestAnswer limit n line old new text

-- the output of line n in a mode
abbrev pub LineAnswer : Mode → ℕ → ℕ → List ℕ → TestView → TestView → List ℕ → Type 0
LineAnswer Script limit n line old new text = StepAnswer limit n line old.net new.net text × (new.notes ≡ old.notes)
LineAnswer Test limit n line old new text = TestAnswer limit n line old new text

-- the output of the lines from line n on
abbrev pub LineAnswers : Mode → ℕ → ℕ → List (List ℕ) → TestView → TestView → List ℕ → Type 0
LineAnswers mode limit n [] old new text = (new ≡ old) × (text ≡ [])
LineAnswers mode limit n (line ∷ lines) old new text =
    (mid : TestView) × (front : List ℕ) × (back : List ℕ) × LineAnswer mode limit n line old mid front × LineAnswers mode limit (suc n) lines mid new back × (text ≡ front ++ back)

-- the whole text for a script: the output of its lines, and the report of the record of the network, which is lawful
pub record IsScriptText (mode : Mode) (limit : ℕ) (plan : Plan) (input : List ℕ) (old new : Notes) (text : List ℕ) : Type 0 where
  pub last : NetView
  pub answers : List ℕ
  pub are_answers : LineAnswers mode limit 1 (lines_of input) (noted (start_of plan) old) (noted last new) answers
  pub lawful : IsLawfulRecord spanning_tree plan last.rec
  pub report : List ℕ
  pub is_report : IsReport plan last.rec report
  pub text_is : text ≡ answers ++ report

-- the text for the first lines of a script, after a fault (the fault `Steps` comes only at the limit of steps)
pub record IsScriptBeginning (fault : CommandFault) (mode : Mode) (limit : ℕ) (plan : Plan) (input : List ℕ) (old new : Notes) (text : List ℕ) : Type 0 where
  pub front : List (List ℕ)
  pub back : List (List ℕ)
  pub lines : lines_of input ≡ front ++ back
  pub last : NetView
  pub answers : List ℕ
  pub are_answers : LineAnswers mode limit 1 front (noted (start_of plan) old) (noted last new) answers
  pub steps : fault ≡ Steps → IsAtLimit limit last back
  pub more : List ℕ
  pub follows : MayFollow fault plan last back more
  pub text_is : text ≡ answers ++ more

-- the output of all lines and the report were written after the earlier octets, if the input is known
abbrev pub PrintsLines : Mode → ℕ → Plan → Option (List ℕ) → Notes → Notes → Option (List ℕ) → Option (List ℕ) → Type 0
PrintsLines mode limit plan input old new before after =
    IfSome input (λ octets. (text : List ℕ) × Appends before after text × IsScriptText mode limit plan octets old new text)

-- the output of the first lines was written, each line's output whole, and what may follow it
abbrev pub PrintsLinesBeginning : CommandFault → Mode → ℕ → Plan → Option (List ℕ) → Notes → Option (List ℕ) → Option (List ℕ) → Type 0
PrintsLinesBeginning fault mode limit plan input old before after =
    IfSome input (λ octets. (text : List ℕ) × (noticed : Notes) × Appends before after text × IsScriptBeginning fault mode limit plan octets old noticed text)

-- the output of all lines was written, and this is the network then
abbrev pub HaveAnswered : Mode → ℕ → Plan → Option (List ℕ) → Notes → Option (List ℕ) → Option (List ℕ) → TestView → Type 0
HaveAnswered mode limit plan input old before after last =
    IfSome input (λ octets. (text : List ℕ) × Appends before after text × LineAnswers mode limit 1 (lines_of octets) (noted (start_of plan) old) last text)

-- before line n: the output of the earlier lines is written, and the remaining lines are those of the held and the
-- unread octets
pub record HasCome (mode : Mode) (limit n : ℕ) (plan : Plan) (octets held rest : List ℕ) (old : Notes) (before after : Option (List ℕ)) (now : TestView) : Type 0 where
  pub front : List (List ℕ)
  pub lines : cut_lines limit octets ≡ front ++ cut_lines limit (held ++ rest)
  pub number : n ≡ suc (length front)
  pub text : List ℕ
  pub written : Appends before after text
  pub answers : LineAnswers mode limit 1 front (noted (start_of plan) old) now text

abbrev pub StepsProgress : Mode → ℕ → ℕ → Plan → Option (List ℕ) → List ℕ → Option (List ℕ) → Notes → Option (List ℕ) → Option (List ℕ) → TestView → Type 0
StepsProgress mode limit n plan None held left old before after now = ⊤
StepsProgress mode limit n plan (Some octets) held None old before after now = ⊥
StepsProgress mode limit n plan (Some octets) held (Some rest) old before after now = HasCome mode limit n plan octets held rest old before after now
