-- The printed text of the step that an event's place took.
use Rattle.std.specs.Prelude.{ℕ, Bool, not, ◌==◌, if◌then◌else◌, List, [], ◌∷◌, ◌++◌, Some, None, flat_map, codes, unwrap_or}
use Rattle.std.specs.Fmt.{decimal}
use Rattle.std.specs.List.{filter, list_any}
use Rattle.std.specs.Option.{option_map}
use Rattle.std.specs.declared.option.Option.{Option}
use Rattle.pb_frame.specs.Hex.{hex_text}
use Rattle.pb_lan.specs.Numbering.{numbered}
use Rattle.pb_lan.specs.declared.plan.Plan.{Plan}
use Rattle.pb_lan.specs.declared.step.Mark.{Mark}
use Rattle.pb_lan.specs.declared.step.NoRoom.{NoRoom}
use Rattle.pb_lan.specs.declared.step.NoRoom.TheVariants.{Full, Memory as no_memory}
use Rattle.pb_lan.specs.declared.step.Outcome.{Outcome}
use Rattle.pb_lan.specs.declared.step.Outcome.TheVariants.{Relayed, Filtered, Heard}
use Rattle.pb_lan.specs.declared.step.Place.{Place}
use Rattle.pb_lan.specs.declared.step.Place.TheVariants.{Bridge, Lane, Customer}
use Rattle.pb_lan.specs.declared.step.Step.{Step}
use Rattle.pb_lan.specs.declared.step.Step.TheVariants.{Poll, Feed, Deliver, Receive, Transmit, Tick, Admin, Take, Put}
use Rattle.pb_messages.specs.Reasons.{reason_word}

-- the chosen ports that got a copy
abbrev pub copied : List (ℕ × NoRoom) → List ℕ → List ℕ
copied refused chosen = filter (λ port. not (list_any (λ r. r.0 == port) refused)) chosen

abbrev pub port_words : List ℕ → List ℕ
port_words ports = flat_map (λ port. codes " " ++ decimal port) ports

-- the reason why a port got no copy
abbrev pub no_room_word : NoRoom → List ℕ
no_room_word Full = codes " full "
no_room_word no_memory = codes " memory "

abbrev pub refused_words : List (ℕ × NoRoom) → List ℕ
refused_words refused = flat_map (λ r. no_room_word r.1 ++ decimal r.0) refused

-- the text of the outcome of a received frame
abbrev pub outcome_words : Outcome → List ℕ
outcome_words (Relayed chosen refused) = codes "relayed" ++ port_words (copied refused chosen) ++ refused_words refused
outcome_words (Filtered reason) = codes "filtered " ++ reason_word reason
outcome_words Heard = codes "heard"

-- the number of a frame among those of its port (each frame that a customer port polls has a mark)
abbrev pub number_in : Option Mark → ℕ
number_in None = 0
number_in (Some mark) = mark.number

abbrev pub taken_word : Bool → List ℕ
taken_word lost = if lost then codes "lost " else codes "taken "

-- the text of a step, in which `name` is that of the customer port that took it
abbrev pub step_words : List ℕ → Step → List ℕ
step_words name (Poll item) = codes "polled " ++ name ++ codes " " ++ decimal (number_in item.mark)
step_words name (Feed item) = codes "fed"
step_words name (Deliver item gone) = codes "delivered " ++ hex_text item.wire
step_words name (Receive port item learnt outcome moved) = outcome_words outcome
step_words name (Transmit port item) = codes "sent " ++ hex_text item.wire
step_words name (Tick now moved) = codes "ticked"
step_words name (Admin port up moved) = codes "set"
step_words name (Take number item lost) = taken_word lost ++ decimal number
step_words name (Put item) = codes "put"

-- the name of a customer port, and the empty text for other places
abbrev pub place_name : Plan → Place → List ℕ
place_name plan (Bridge number) = []
place_name plan (Lane number) = []
place_name plan (Customer number) = unwrap_or (option_map (λ c. c.name) (numbered plan.customers number)) []

-- the line of a step
abbrev pub step_line : Plan → Place → Step → List ℕ
step_line plan place step = step_words (place_name plan place) step ++ 10 ∷ []

-- the line for an event that had nothing to do
abbrev pub idle_line : List ℕ
idle_line = codes "idle" ++ 10 ∷ []

-- the line for an event of a part that the plan lacks
abbrev pub no_such_line : List ℕ
no_such_line = codes "no such" ++ 10 ∷ []
