-- The output of a step script.
use Rattle.std.specs.Prelude.{◌≡◌, ℕ, ◌-◌, suc, Bool, true, List, [], ◌∷◌, ◌++◌, Option, Some, IfSome, length, slice_get, Ok, Err}
use Rattle.std.specs.Io.KnownBytes.{Appends}
use Rattle.pb_lan.specs.Events.{empty_record, steps_at, with_step}
use Rattle.pb_lan.specs.Records.{IsLawfulRecord}
use Rattle.pb_relay.specs.Protocol.{spanning_tree}
use Rattle.pb_lan.specs.declared.event.Event.{Event}
use Rattle.pb_lan.specs.declared.plan.Plan.{Plan}
use Rattle.pb_lan.specs.declared.plan.Spanning.TheVariants.{Rstp}
use Rattle.pb_lan.specs.declared.record.Record.{Record}
use Rattle.pb_lan.specs.declared.step.Place.{Place}
use Rattle.pb_lan.specs.declared.step.Step.{Step}
use Rattle.pb_lines.specs.Lines.{lines_of}
use Rattle.pb_net.specs.Answers.{NetView, IsAnswer}
use Rattle.pb_relay.specs.Settled.{TellsSettled}
use Rattle.pb_net.specs.declared.did.Did.TheVariants.{Idle, Done}
use Rattle.pb_net.specs.declared.fault.NetFault.TheVariants.{StepLimit, NoSuch}
use Rattle.pb_step_script.specs.Answers.{step_line, idle_line, no_such_line}
use Rattle.pb_step_script.specs.Lines.{Asks}
use Rattle.pb_messages.specs.BadLines.{bad_line}
use Rattle.pb_report.specs.RecordTexts.{settled_line, IsRecordText}
use Rattle.pb_messages.specs.declared.fault.CommandFault.{CommandFault}
use Rattle.pb_messages.specs.declared.fault.CommandFault.TheVariants.{Steps, Memory}

-- the newest step of a place
abbrev pub newest_at : Record → Place → Option Step
newest_at rec place = slice_get (steps_at rec place) (length (steps_at rec place) - 1)

-- a place of the record has taken one step more than before
abbrev pub HasGrown : Record → Place → Type 0
HasGrown new place = (old : Record) × (step : Step) × (new ≡ with_step old place step)

-- the output of line n: an invalid line is bad, any other asks for an event whose result is printed, and after a step
-- the record is lawful
pub data StepAnswer (limit n : ℕ) (line : List ℕ) (old new : NetView) (text : List ℕ) : Type 0 where
  bad : ((event : Event) → Asks limit old.plan line event → ⊥) → new ≡ old → text ≡ bad_line n → StepAnswer limit n line old new text
  absent : (event : Event) → Asks limit old.plan line event → IsAnswer old event (Err NoSuch) new → text ≡ no_such_line → StepAnswer limit n line old new text
  idle : (event : Event) → Asks limit old.plan line event → IsAnswer old event (Ok Idle) new → text ≡ idle_line → StepAnswer limit n line old new text
  done : (event : Event) (place : Place) (step : Step) → Asks limit old.plan line event → IsAnswer old event (Ok (Done place)) new → IsLawfulRecord spanning_tree new.plan new.rec
      → newest_at new.rec place ≡ Some step → text ≡ step_line old.plan place step → StepAnswer limit n line old new text

-- the output of the lines from line n on
abbrev pub StepAnswers : ℕ → ℕ → List (List ℕ) → NetView → NetView → List ℕ → Type 0
StepAnswers limit n [] old new text = (new ≡ old) × (text ≡ [])
StepAnswers limit n (line ∷ lines) old new text =
    (mid : NetView) × (front : List ℕ) × (back : List ℕ) × StepAnswer limit n line old mid front × StepAnswers limit (suc n) lines mid new back × (text ≡ front ++ back)

-- the network of a plan, before any step
abbrev pub start_of : Plan → NetView
start_of plan = record { plan = plan; rec = empty_record plan; is_kept = true }

-- a network of this plan, which keeps its steps
abbrev pub KeepsStepsOf : Plan → NetView → Type 0
KeepsStepsOf plan net = (net.plan ≡ plan) × (net.is_kept ≡ true)

-- the report of a record: its counts, the services for which its last shape is no forest, and whether its bridges have
-- settled
pub record IsReport (plan : Plan) (rec : Record) (text : List ℕ) : Type 0 where
  pub told : List ℕ
  pub is_told : IsRecordText plan rec told
  pub answer : Option Bool
  pub is_answer : TellsSettled plan rec answer
  pub text_is : text ≡ told ++ settled_line answer

-- the whole text for a script: the output of its lines, and the report of the record of the network, which is lawful
pub record IsStepsText (limit : ℕ) (plan : Plan) (input text : List ℕ) : Type 0 where
  pub last : NetView
  pub answers : List ℕ
  pub are_answers : StepAnswers limit 1 (lines_of input) (start_of plan) last answers
  pub lawful : IsLawfulRecord spanning_tree plan last.rec
  pub report : List ℕ
  pub is_report : IsReport plan last.rec report
  pub text_is : text ≡ answers ++ report

-- the next line asks for an event whose place has taken all its steps
abbrev pub IsAtLimit : ℕ → NetView → List (List ℕ) → Type 0
IsAtLimit limit net [] = ⊥
IsAtLimit limit net (line ∷ lines) = (event : Event) × Asks limit net.plan line event × IsAnswer net event (Err StepLimit) net

-- the text after the output of the first lines, after a fault: nothing, or, if the spanning tree decides the states,
-- all lines were read and the fault is `Memory`, the report of the record without its last line
pub data MayFollow (fault : CommandFault) (plan : Plan) (last : NetView) (back : List (List ℕ)) (text : List ℕ) : Type 0 where
  no_report : text ≡ [] → MayFollow fault plan last back text
  part_report : fault ≡ Memory → plan.spanning ≡ Rstp → back ≡ [] → IsLawfulRecord spanning_tree plan last.rec → IsRecordText plan last.rec text
      → MayFollow fault plan last back text

-- the text for the first lines of a script, after a fault (the fault `Steps` comes only at the limit of steps)
pub record IsStepsBeginning (fault : CommandFault) (limit : ℕ) (plan : Plan) (input text : List ℕ) : Type 0 where
  pub front : List (List ℕ)
  pub back : List (List ℕ)
  pub lines : lines_of input ≡ front ++ back
  pub last : NetView
  pub answers : List ℕ
  pub are_answers : StepAnswers limit 1 front (start_of plan) last answers
  pub steps : fault ≡ Steps → IsAtLimit limit last back
  pub more : List ℕ
  pub follows : MayFollow fault plan last back more
  pub text_is : text ≡ answers ++ more

-- the output of all lines and the report were written after the earlier octets, if the input is known
abbrev pub PrintsSteps : ℕ → Plan → Option (List ℕ) → Option (List ℕ) → Option (List ℕ) → Type 0
PrintsSteps limit plan input before after = IfSome input (λ octets. (text : List ℕ) × Appends before after text × IsStepsText limit plan octets text)

-- the output of the first lines was written, each line's output whole, and what may follow it
abbrev pub PrintsStepsBeginning : CommandFault → ℕ → Plan → Option (List ℕ) → Option (List ℕ) → Option (List ℕ) → Type 0
PrintsStepsBeginning fault limit plan input before after = IfSome input (λ octets. (text : List ℕ) × Appends before after text × IsStepsBeginning fault limit plan octets text)
