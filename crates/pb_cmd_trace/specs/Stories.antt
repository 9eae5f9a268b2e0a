-- The traces of frames that are injected one after the other.
use Rattle.std.specs.Prelude.{◌≡◌, ◌<◌, ℕ, false, List, Option, [], ◌∷◌, ◌++◌, Some, None, Ok, Err, length, take, slice_get, string_bytes}
use Rattle.pb_frame.specs.Hex.{IsHex}
use Rattle.pb_lan.specs.Events.{has_place}
use Rattle.pb_lan.specs.Records.{IsLawfulRecord}
use Rattle.pb_lan.specs.declared.event.Event.TheVariants.{Poll}
use Rattle.pb_lan.specs.declared.plan.Plan.{Plan}
use Rattle.pb_lan.specs.declared.step.Place.TheVariants.{Customer}
use Rattle.pb_lan.specs.declared.step.Step.{Step}
use Rattle.pb_lan.specs.declared.step.Step.TheVariants.{Poll as Polled}
use Rattle.pb_names.specs.Numbers.{port_named}
use Rattle.pb_net.specs.Answers.{NetView, IsAnswer}
use Rattle.pb_net.specs.declared.did.Did.TheVariants.{Idle, Done}
use Rattle.pb_net.specs.declared.fault.NetFault.TheVariants.{NoSuch}
use Rattle.pb_relay.specs.Protocol.{spanning_tree}
use Rattle.pb_step_script.specs.Answers.{number_in}
use Rattle.pb_converge.specs.Drives.{HasDrained, EndsAs}
use Rattle.pb_converge.specs.declared.convergence.Convergence.{Convergence}
use Rattle.pb_cmd_step.specs.Steps.{newest_at}
use Rattle.pb_cmd_trace.specs.Walks.{HasWalked}
use Rattle.pb_cmd_trace.specs.declared.entry.Entry.{Entry}
use Rattle.pb_cmd_trace.specs.declared.frame.Fate.{Fate}
use Rattle.pb_cmd_trace.specs.declared.frame.Fate.TheVariants.{Ended as fate_ended, GoesRound as fate_round, NoPort as fate_no_port, NoFrame as fate_no_frame}
use Rattle.pb_cmd_trace.specs.declared.journey.Journey.{Journey}
use Rattle.pb_cmd_trace.specs.declared.journey.Journey.TheVariants.{Told, NoPort, NoFrame}
use Rattle.pb_cmd_trace.specs.declared.lines.TraceLine.{TraceLine}
use Rattle.pb_cmd_trace.specs.declared.lines.TraceLine.TheVariants.{Entered, Others, Waits}
use Rattle.pb_cmd_trace.specs.declared.onward.Onward.TheVariants.{Feed}
use Rattle.pb_cmd_trace.specs.declared.round.FrameId.{FrameId}
use Rattle.pb_cmd_trace.specs.declared.walk.Course.{Course}
use Rattle.pb_cmd_trace.specs.declared.walk.Course.TheVariants.{Ended, GoesRound}

-- the bridges converged first within so many ticks of each, if that was requested
abbrev pub HasBegun : Option ℕ → NetView → NetView → Option Convergence → Type 0
HasBegun (Some ticks) old new convergence = (end : Convergence) × EndsAs ticks 1000000000 end old new × (convergence ≡ Some end)
HasBegun None old new convergence = (new ≡ old) × (convergence ≡ None)

-- the number of an injected frame among those of its port
abbrev pub entry_number : Step → ℕ
entry_number (Polled item) = number_in item.mark
entry_number _ = 0

-- a frame was just injected at a customer port, and the record is lawful
pub record IsEntry (port number : ℕ) (net : NetView) (lines : List TraceLine) : Type 0 where
  pub step : Step
  pub newest : newest_at net.rec (Customer port) ≡ Some step
  pub lawful : IsLawfulRecord spanning_tree net.plan net.rec
  pub number_is : number ≡ entry_number step
  pub lines_are : lines ≡ Entered port step ∷ []

-- a frame went as far as it goes, and all else that was due was done; or it is in a loop, and nothing else was done
abbrev pub IsConclusion : Course → Fate → ℕ → NetView → NetView → List TraceLine → Type 0
IsConclusion Ended fate number old new lines = (fate ≡ fate_ended) × ((others : ℕ) × HasDrained others old new × (lines ≡ Others others ∷ []))
IsConclusion GoesRound fate number old new lines = (fate ≡ fate_round number) × (new ≡ old) × (lines ≡ [])

-- a frame that was just injected at a customer port was followed
pub record IsFollowed (plan : Plan) (port : ℕ) (fate : Fate) (old new : NetView) (lines : List TraceLine) : Type 0 where
  pub number : ℕ
  pub head : List TraceLine
  pub entry : IsEntry port number old head
  pub course : Course
  pub walked : NetView
  pub body : List TraceLine
  pub walk : HasWalked plan (Feed port ∷ []) course old walked body
  pub rest : List TraceLine
  pub conclusion : IsConclusion course fate number walked new rest
  pub lines_are : lines ≡ head ++ body ++ rest

-- a frame was injected and followed; or the port held another one; or there is no such port
pub data AnswersFrame (plan : Plan) (port : ℕ) (frame : List ℕ) (fate : Fate) (old new : NetView) (lines : List TraceLine) : Type 0 where
  followed : (polled : NetView) → IsAnswer old (Poll port frame) (Ok (Done (Customer port))) polled → IsFollowed plan port fate polled new lines
      → AnswersFrame plan port frame fate old new lines
  waits : fate ≡ fate_ended → IsAnswer old (Poll port frame) (Ok Idle) new → lines ≡ Waits ∷ [] → AnswersFrame plan port frame fate old new lines
  absent : fate ≡ fate_no_port → IsAnswer old (Poll port frame) (Err NoSuch) new → lines ≡ [] → AnswersFrame plan port frame fate old new lines

-- the digits are those of the frame, which has at least one octet
abbrev pub IsSent : Entry → List ℕ → Type 0
IsSent entry frame = IsHex (string_bytes entry.hex) frame × (0 < length frame)

-- the frame of the entry was injected at the port of its name; or its digits are no frame
pub data AnswersEntry (plan : Plan) (entry : Entry) (fate : Fate) (old new : NetView) (lines : List TraceLine) : Type 0 where
  sent : (frame : List ℕ) → IsSent entry frame → AnswersFrame plan (port_named plan (string_bytes entry.port)) frame fate old new lines
      → AnswersEntry plan entry fate old new lines
  unsent : fate ≡ fate_no_frame → ((frame : List ℕ) → IsSent entry frame → ⊥) → new ≡ old → lines ≡ [] → AnswersEntry plan entry fate old new lines

-- the frames were injected one after the other, and each went as far as it goes
abbrev pub AreStories : Plan → List Entry → NetView → NetView → List TraceLine → Type 0
AreStories plan [] old new lines = (new ≡ old) × (lines ≡ [])
AreStories plan (entry ∷ entries) old new lines =
    (between : NetView) × (front : List TraceLine) × (back : List TraceLine)
    × AnswersEntry plan entry fate_ended old between front × AreStories plan entries between new back × (lines ≡ front ++ back)

-- the frames before this one did, and this one is in a loop
pub record IsRoundStory (plan : Plan) (entries : List Entry) (frame : FrameId) (old new : NetView) (lines : List TraceLine) : Type 0 where
  pub index : ℕ
  pub entry : Entry
  pub there : slice_get entries index ≡ Some entry
  pub between : NetView
  pub front : List TraceLine
  pub stories : AreStories plan (take index entries) old between front
  pub back : List TraceLine
  pub story : AnswersEntry plan entry (fate_round frame.number) between new back
  pub port : frame.port ≡ port_named plan (string_bytes entry.port)
  pub lines_are : lines ≡ front ++ back

-- the plan lacks the customer port of the entry at this index
abbrev pub LacksPort : Plan → List Entry → ℕ → Type 0
LacksPort plan entries index =
    (entry : Entry) × (slice_get entries index ≡ Some entry) × (has_place plan (Customer (port_named plan (string_bytes entry.port))) ≡ false)

-- the digits of the entry at this index are no frame
abbrev pub LacksFrame : List Entry → ℕ → Type 0
LacksFrame entries index = (entry : Entry) × (slice_get entries index ≡ Some entry) × ((frame : List ℕ) → IsSent entry frame → ⊥)

-- the traces of all frames, by their end
abbrev pub HasJourneyed : Plan → List Entry → Journey → NetView → NetView → List TraceLine → Type 0
HasJourneyed plan entries (Told None) old new lines = AreStories plan entries old new lines
HasJourneyed plan entries (Told (Some frame)) old new lines = IsRoundStory plan entries frame old new lines
HasJourneyed plan entries (NoPort index) old new lines = LacksPort plan entries index
HasJourneyed plan entries (NoFrame index) old new lines = LacksFrame entries index
