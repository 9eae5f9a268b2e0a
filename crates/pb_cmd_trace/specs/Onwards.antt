-- The next events of a frame on its way.
use Rattle.std.specs.Prelude.{ℕ, ◌+◌, ◌/◌, Bool, false, List, [], ◌∷◌, ◌++◌, nat_lt, ◌==◌, if◌then◌else◌}
use Rattle.std.specs.List.{list_any}
use Rattle.std.specs.Option.{option_map, option_to_list}
use Rattle.pb_lan.specs.Events.{customer_there, lane_from, ends_at}
use Rattle.pb_lan.specs.Numbering.{numbered}
use Rattle.pb_lan.specs.declared.event.Event.{Event}
use Rattle.pb_lan.specs.declared.event.Event.TheVariants.{Feed as Feeds, Deliver as Delivers, Receive as Receives, Transmit as Transmits, Take as Takes, Put as Puts}
use Rattle.pb_lan.specs.declared.plan.Plan.{Plan}
use Rattle.pb_lan.specs.declared.plan.LinkPlan.{LinkPlan}
use Rattle.pb_lan.specs.declared.step.NoRoom.{NoRoom}
use Rattle.pb_lan.specs.declared.step.Outcome.{Outcome}
use Rattle.pb_lan.specs.declared.step.Outcome.TheVariants.{Relayed, Filtered, Heard}
use Rattle.pb_lan.specs.declared.step.Step.{Step}
use Rattle.pb_lan.specs.declared.step.Step.TheVariants.{Receive as Received, Take as Took}
use Rattle.pb_cmd_trace.specs.declared.onward.Onward.{Onward}
use Rattle.pb_cmd_trace.specs.declared.onward.Onward.TheVariants.{Feed, Deliver, Receive, Transmit, Take, Put}

-- the network's event for it
abbrev pub event_of : Onward → Event
event_of (Feed port) = Feeds port
event_of (Deliver port) = Delivers port
event_of (Receive bridge port) = Receives bridge port
event_of (Transmit bridge port) = Transmits bridge port
event_of (Take lane) = Takes lane
event_of (Put lane) = Puts lane

-- the bridge receives the frame that a customer port feeds
abbrev pub handed_on : Plan → ℕ → List Onward
handed_on plan port = option_to_list (option_map (λ c. Receive c.bridge c.port) (numbered plan.customers port))

-- a port sends the copy that it got
abbrev pub copies_of : ℕ → List (ℕ × NoRoom) → ℕ → List Onward
copies_of bridge refused port = if list_any (λ r. r.0 == port) refused then [] else (Transmit bridge port ∷ [])

-- the chosen ports send their copies; what is done later comes first in the list
abbrev pub sendings : ℕ → List (ℕ × NoRoom) → List ℕ → List Onward
sendings bridge refused [] = []
sendings bridge refused (port ∷ ports) = sendings bridge refused ports ++ copies_of bridge refused port

-- the ports send what the outcome of a received frame has put in their queues
abbrev pub copied : ℕ → Outcome → List Onward
copied bridge (Relayed chosen refused) = sendings bridge refused chosen
copied bridge (Filtered reason) = []
copied bridge Heard = []

-- the ports send what a bridge's Receive step has put in their queues
abbrev pub sent_on : ℕ → Step → List Onward
sent_on bridge (Received port item learnt outcome moved) = copied bridge outcome
sent_on bridge _ = []

-- the event that takes what a bridge sends at a port: a delivery, or a Take of the lane that starts there
abbrev pub fetch : Plan → ℕ → ℕ → Onward
fetch plan bridge port =
    if nat_lt 0 (customer_there plan bridge port) then Deliver (customer_there plan bridge port) else Take (lane_from plan bridge port)

-- the lane lost the item of the step
abbrev pub is_lost : Step → Bool
is_lost (Took number item lost) = lost
is_lost _ = false

-- the receipt at the end of a lane
abbrev pub arrival : ℕ → LinkPlan → Onward
arrival lane link = Receive (ends_at lane link).bridge (ends_at lane link).port

-- the far bridge receives the frame that a lane puts there
abbrev pub landings : Plan → ℕ → List Onward
landings plan lane = option_to_list (option_map (arrival lane) (numbered plan.links ((lane + 1) / 2)))

-- the events that follow a step; what is done later comes first in the list
abbrev pub follows : Plan → Onward → Step → List Onward
follows plan (Feed port) step = handed_on plan port
follows plan (Deliver port) step = []
follows plan (Receive bridge port) step = sent_on bridge step
follows plan (Transmit bridge port) step = fetch plan bridge port ∷ []
follows plan (Take lane) step = if is_lost step then [] else (Put lane ∷ [])
follows plan (Put lane) step = landings plan lane
