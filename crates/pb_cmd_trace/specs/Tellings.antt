-- The lines of a frame's steps.
use Rattle.std.specs.Prelude.{ℕ, Bool, zero, suc, ◌+◌, ◌/◌, ◌%◌, min, List, [], ◌∷◌, ◌++◌, Some, None, take, drop, length, codes, nat_lt, ◌==◌, if◌then◌else◌}
use Rattle.std.specs.Fmt.{decimal}
use Rattle.std.specs.declared.option.Option.{Option}
use Rattle.pb_frame.specs.Hex.{hex_text}
use Rattle.pb_frame.specs.Tags.{has_service_tag, has_priority_tag, priority_of, vid_of}
use Rattle.pb_frame.specs.declared.learnt.Learnt.{Learnt}
use Rattle.pb_frame.specs.declared.learnt.Learnt.TheVariants.{New, Kept, Moved, Full, Group, Memory}
use Rattle.pb_lan.specs.Ports.{vid_at}
use Rattle.pb_lan.specs.declared.plan.Plan.{Plan}
use Rattle.pb_lan.specs.declared.plan.CustomerPlan.{CustomerPlan}
use Rattle.pb_lan.specs.declared.step.Item.{Item}
use Rattle.pb_lan.specs.declared.step.Outcome.{Outcome}
use Rattle.pb_lan.specs.declared.step.Outcome.TheVariants.{Relayed, Filtered, Heard}
use Rattle.pb_lan.specs.declared.step.Place.TheVariants.{Bridge, Lane, Customer}
use Rattle.pb_lan.specs.declared.step.Step.{Step}
use Rattle.pb_lan.specs.declared.step.Step.TheVariants.{Poll as Polled, Feed as Fed, Deliver as Delivered, Receive as Received, Transmit as Transmitted, Tick as Ticked, Admin as Administered, Take as Took, Put as Put_on}
use Rattle.pb_messages.specs.Reasons.{reason_word}
use Rattle.pb_names.specs.Names.{bridge_name, link_name, port_name}
use Rattle.pb_names.specs.Places.{customer_at}
use Rattle.pb_step_script.specs.Answers.{step_line}
use Rattle.pb_cmd_trace.specs.Places.{name_of_vid, neighbour}
use Rattle.pb_cmd_trace.specs.declared.onward.Onward.{Onward}
use Rattle.pb_cmd_trace.specs.declared.onward.Onward.TheVariants.{Feed, Deliver, Receive, Transmit, Take, Put}

-- two spaces for each level
abbrev pub spaces : ℕ → List ℕ
spaces zero = []
spaces (suc n) = spaces n ++ codes "  "

-- the indentation: one level, and one more for each bridge that has relayed the frame, at most 33
abbrev pub indent : ℕ → List ℕ
indent hops = spaces (min hops 32 + 1)

-- the number of bridges that have relayed the frame of a step
abbrev pub hops_of : Step → ℕ
hops_of (Polled item) = item.hops
hops_of (Fed item) = item.hops
hops_of (Delivered item gone) = item.hops
hops_of (Received port item learnt outcome moved) = item.hops
hops_of (Transmitted port item) = item.hops
hops_of (Took number item lost) = item.hops
hops_of (Put_on item) = item.hops
hops_of (Ticked now moved) = 0
hops_of (Administered port up moved) = 0

-- the four octets of a service tag, in hexadecimal
abbrev pub tag_text : List ℕ → List ℕ
tag_text wire = hex_text (take 4 (drop 12 wire))

-- the service and the priority of a frame
abbrev pub service_words : Plan → ℕ → ℕ → List ℕ
service_words plan vid priority = codes ", " ++ name_of_vid plan vid ++ codes " vid " ++ decimal vid ++ codes " priority " ++ decimal priority

-- a customer's frame has the port's service and priority; a priority tag is removed, and its priority counts
abbrev pub customer_words : Plan → CustomerPlan → List ℕ → List ℕ
customer_words plan customer wire =
    if has_priority_tag wire
    then service_words plan (vid_at plan customer) (priority_of wire) ++ codes ", tag " ++ tag_text wire ++ codes " removed"
    else service_words plan (vid_at plan customer) customer.pcp

-- a frame from another bridge has the service and the priority of its tag
abbrev pub tagged_words : Plan → List ℕ → List ℕ
tagged_words plan wire = if has_service_tag wire then service_words plan (vid_of wire) (priority_of wire) else codes ", untagged"

-- the service and the priority of a frame from a customer port, or from another bridge
abbrev pub class_by : Plan → Option CustomerPlan → List ℕ → List ℕ
class_by plan (Some customer) wire = customer_words plan customer wire
class_by plan None wire = tagged_words plan wire

-- the service and the priority of a frame that a bridge received at a port
abbrev pub class_words : Plan → ℕ → ℕ → List ℕ → List ℕ
class_words plan bridge port wire = class_by plan (customer_at plan bridge port) wire

-- what the learning table did with the source
abbrev pub learnt_words : Option Learnt → List ℕ
learnt_words None = []
learnt_words (Some New) = codes ", source learnt"
learnt_words (Some Kept) = codes ", source known"
learnt_words (Some Moved) = codes ", source moved"
learnt_words (Some Full) = codes ", table full"
learnt_words (Some Group) = codes ", source is a group address"
learnt_words (Some Memory) = codes ", source not learnt"

-- why a relayed frame, whose station is known or not, is sent at these ports; without a port it is dropped, and the reason
-- follows
abbrev pub way_word : Bool → List ℕ → List ℕ
way_word known chosen = if length chosen == 0 then [] else (if known then codes ", known" else codes ", flooded")

-- why a received frame is sent at its ports
abbrev pub way_words : Bool → Outcome → List ℕ
way_words known (Relayed chosen refused) = way_word known chosen
way_words known (Filtered reason) = []
way_words known Heard = []

-- where a bridge received a frame, its service and priority, what was learnt, and why the frame is sent where it is
abbrev pub receipt_words : Plan → ℕ → ℕ → Bool → Step → List ℕ
receipt_words plan bridge port known (Received at item learnt outcome moved) =
    bridge_name plan bridge ++ codes " " ++ decimal port ++ codes " from " ++ neighbour plan bridge port
    ++ class_words plan bridge port item.wire ++ learnt_words learnt ++ way_words known outcome
receipt_words plan bridge port known _ = []

-- whether the sending bridge added the tag: the first bridge does
abbrev pub added_word : ℕ → List ℕ
added_word hops = if hops == 1 then codes " added" else []

-- the tag of a copy to another bridge; before a customer port it is removed
abbrev pub tag_by : Option CustomerPlan → Item → List ℕ
tag_by (Some customer) item = if nat_lt 1 item.hops then codes ", tag removed" else []
tag_by None item = if has_service_tag item.wire then codes ", tag " ++ tag_text item.wire ++ added_word item.hops else []

-- the tag of a copy that a bridge sent
abbrev pub tag_words : Plan → ℕ → ℕ → Step → List ℕ
tag_words plan bridge port (Transmitted at item) = tag_by (customer_at plan bridge port) item
tag_words plan bridge port _ = []

-- where a bridge sent a frame, and with what tag
abbrev pub sending_words : Plan → ℕ → ℕ → Step → List ℕ
sending_words plan bridge port step =
    bridge_name plan bridge ++ codes " " ++ decimal port ++ codes " to " ++ neighbour plan bridge port ++ tag_words plan bridge port step

-- the direction of a lane
abbrev pub direction_word : ℕ → List ℕ
direction_word lane = if lane % 2 == 1 then codes " ab" else codes " ba"

-- a lane, by its link and direction
abbrev pub lane_words : Plan → ℕ → List ℕ
lane_words plan lane = link_name plan ((lane + 1) / 2) ++ direction_word lane

-- the line of a drop reason
abbrev pub drop_line : List ℕ → List ℕ
drop_line reason = codes "dropped: " ++ reason ++ 10 ∷ []

-- why the bridge dropped the frame of a step, or at which ports it queued copies
abbrev pub outcome_line : Plan → ℕ → Step → Outcome → List ℕ
outcome_line plan bridge step (Filtered reason) = drop_line (reason_word reason)
outcome_line plan bridge step (Relayed chosen refused) =
    if length chosen == 0 then drop_line (codes "no-port") else step_line plan (Bridge bridge) step
outcome_line plan bridge step Heard = step_line plan (Bridge bridge) step

-- what the bridge did with a frame that it received
abbrev pub result_line : Plan → ℕ → Step → List ℕ
result_line plan bridge (Received port item learnt outcome moved) =
    outcome_line plan bridge (Received port item learnt outcome moved) outcome
result_line plan bridge step = step_line plan (Bridge bridge) step

-- the line of a bridge that received a frame
abbrev pub receiving_line : Plan → ℕ → ℕ → Bool → Step → List ℕ
receiving_line plan bridge port known step =
    indent (hops_of step) ++ receipt_words plan bridge port known step ++ codes ": " ++ result_line plan bridge step

-- the line of a bridge that sent a frame
abbrev pub transmission_line : Plan → ℕ → ℕ → Step → List ℕ
transmission_line plan bridge port step = indent (hops_of step) ++ sending_words plan bridge port step ++ 10 ∷ []

-- the line of a lane that took a frame
abbrev pub taking_line : Plan → ℕ → Step → List ℕ
taking_line plan lane step = indent (hops_of step) ++ lane_words plan lane ++ codes ": " ++ step_line plan (Lane lane) step

-- the line of a customer port that delivered a frame
abbrev pub delivery_line : Plan → ℕ → Step → List ℕ
delivery_line plan port step = indent (hops_of step) ++ port_name plan port ++ codes ": " ++ step_line plan (Customer port) step

-- the line of a step with a frame, whose station is known or not; a Feed and a Put have no line
abbrev pub told : Plan → Bool → Onward → Step → List ℕ
told plan known (Feed port) step = []
told plan known (Put lane) step = []
told plan known (Deliver port) step = delivery_line plan port step
told plan known (Receive bridge port) step = receiving_line plan bridge port known step
told plan known (Transmit bridge port) step = transmission_line plan bridge port step
told plan known (Take lane) step = taking_line plan lane step

-- the line of an injected frame
abbrev pub entry_line : Plan → ℕ → Step → List ℕ
entry_line plan port (Polled item) = codes "in " ++ hex_text item.wire ++ codes ": " ++ step_line plan (Customer port) (Polled item)
entry_line plan port _ = []
