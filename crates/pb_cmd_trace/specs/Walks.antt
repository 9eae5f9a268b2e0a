-- The walk of a frame and its copies through a network, step by step.
use Rattle.std.specs.Prelude.{◌≡◌, ◌≤◌, ◌⊎◌, ℕ, zero, suc, Bool, true, false, List, [], ◌∷◌, ◌++◌, Some, Ok}
use Rattle.pb_lan.specs.Events.{place_of, steps_at}
use Rattle.pb_lan.specs.Records.{IsLawfulRecord}
use Rattle.pb_lan.specs.declared.plan.Plan.{Plan}
use Rattle.pb_lan.specs.declared.step.Step.{Step}
use Rattle.pb_net.specs.Answers.{NetView, IsAnswer}
use Rattle.pb_net.specs.declared.did.Did.TheVariants.{Done}
use Rattle.pb_relay.specs.Protocol.{spanning_tree}
use Rattle.pb_converge.specs.Drives.{IsNotDue}
use Rattle.pb_cmd_step.specs.Steps.{newest_at}
use Rattle.pb_cmd_trace.specs.Onwards.{event_of, follows}
use Rattle.pb_cmd_trace.specs.Stations.{known_at}
use Rattle.pb_cmd_trace.specs.declared.lines.TraceLine.{TraceLine}
use Rattle.pb_cmd_trace.specs.declared.lines.TraceLine.TheVariants.{Went}
use Rattle.pb_cmd_trace.specs.declared.onward.Onward.{Onward}
use Rattle.pb_cmd_trace.specs.declared.walk.Course.{Course}
use Rattle.pb_cmd_trace.specs.declared.walk.Course.TheVariants.{Ended, GoesRound}

-- a place took the step of the event; it is reported, what follows is done next, and the record is lawful
pub record HasGoneOn (plan : Plan) (onward : Onward) (old new : NetView) (line : TraceLine) (next : List Onward) : Type 0 where
  pub step : Step
  pub done : IsAnswer old (event_of onward) (Ok (Done (place_of (event_of onward)))) new
  pub newest : newest_at new.rec (place_of (event_of onward)) ≡ Some step
  pub lawful : IsLawfulRecord spanning_tree new.plan new.rec
  pub line_is : line ≡ Went onward step (known_at plan (steps_at new.rec (place_of (event_of onward))) onward step)
  pub next_is : next ≡ follows plan onward step

-- the event was done; or it was not due, and nothing changed
abbrev pub GoesOn : Bool → Plan → Onward → NetView → NetView → List Onward → List Onward → List TraceLine → List TraceLine → Type 0
GoesOn true plan onward old new todo todo' lines lines' =
    (line : TraceLine) × (next : List Onward) × HasGoneOn plan onward old new line next × (todo' ≡ todo ++ next) × (lines' ≡ lines ++ line ∷ [])
GoesOn false plan onward old new todo todo' lines lines' = IsNotDue old (event_of onward) × (new ≡ old) × (todo' ≡ todo) × (lines' ≡ lines)

-- so many steps, each of the last event in the list: a copy is followed to its end before the next one
abbrev pub Walks : ℕ → Plan → List Onward → NetView → List Onward → NetView → List TraceLine → Type 0
Walks zero plan start old todo new lines = (todo ≡ start) × (new ≡ old) × (lines ≡ [])
Walks (suc n) plan start old todo new lines =
    (between : NetView) × (others : List Onward) × (onward : Onward) × (next : List Onward) × (before : List TraceLine) × (line : TraceLine)
    × Walks n plan start old (others ++ onward ∷ []) between before × HasGoneOn plan onward between new line next
    × (todo ≡ others ++ next) × (lines ≡ before ++ line ∷ [])

-- no event is in the list, or the next one is not due
abbrev pub IsAtEnd : List Onward → NetView → Type 0
IsAtEnd todo net = (todo ≡ []) ⊎ ((others : List Onward) × (onward : Onward) × (todo ≡ others ++ onward ∷ []) × IsNotDue net (event_of onward))

-- the walk came to its end within 1,000 steps, or took 1,000 steps
abbrev pub HasEnded : Course → ℕ → List Onward → NetView → Type 0
HasEnded Ended count todo net = (count ≤ 1000) × IsAtEnd todo net
HasEnded GoesRound count todo net = count ≡ 1000

-- a walk from these events, with its end and its reports
pub record HasWalked (plan : Plan) (start : List Onward) (course : Course) (old new : NetView) (lines : List TraceLine) : Type 0 where
  pub count : ℕ
  pub todo : List Onward
  pub walks : Walks count plan start old todo new lines
  pub ended : HasEnded course count todo new
