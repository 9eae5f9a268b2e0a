-- The summary of the injected frames, from a record.
use Rattle.std.specs.Prelude.{ℕ, Bool, true, false, List, [], ◌∷◌, ◌++◌, Option, Some, None, is_some, length, flat_map, codes, sum_by, count_by, nat_lt, ◌==◌, ◌&&◌, ◌||◌, if◌then◌else◌}
use Rattle.std.specs.Fmt.{decimal}
use Rattle.std.specs.List.{list_any}
use Rattle.pb_lan.specs.Numbering.{numbers_from}
use Rattle.pb_lan.specs.Records.{steps_of, lane_ab, lane_ba}
use Rattle.pb_lan.specs.declared.plan.Plan.{Plan}
use Rattle.pb_lan.specs.declared.record.Record.{Record}
use Rattle.pb_lan.specs.declared.step.Mark.{Mark}
use Rattle.pb_lan.specs.declared.step.Outcome.{Outcome}
use Rattle.pb_lan.specs.declared.step.Outcome.TheVariants.{Relayed, Filtered, Heard}
use Rattle.pb_lan.specs.declared.step.Step.{Step}
use Rattle.pb_lan.specs.declared.step.Step.TheVariants.{Deliver, Receive, Take}
use Rattle.pb_names.specs.Names.{link_name, port_name}
use Rattle.pb_cmd_trace.specs.declared.round.FrameId.{FrameId}

-- the mark is that of the frame
abbrev pub is_frame : FrameId → Option Mark → Bool
is_frame frame None = false
is_frame frame (Some mark) = mark.port == frame.port && mark.number == frame.number

-- a lane took the frame
abbrev pub takes : FrameId → Step → Bool
takes frame (Take number item lost) = is_frame frame item.mark
takes frame _ = false

-- the frame passed a link twice or more in one direction
abbrev pub is_passed_twice : Record → FrameId → ℕ → Bool
is_passed_twice rec frame link =
    nat_lt 1 (count_by (takes frame) (steps_of rec.lanes (lane_ab link))) || nat_lt 1 (count_by (takes frame) (steps_of rec.lanes (lane_ba link)))

-- the link's name, if so
abbrev pub passed_word : Plan → Record → FrameId → ℕ → List ℕ
passed_word plan rec frame link = if is_passed_twice rec frame link then codes " " ++ link_name plan link else []

-- the names of all such links, in the plan's order
abbrev pub passed_words : Plan → Record → FrameId → List ℕ
passed_words plan rec frame = flat_map (passed_word plan rec frame) (numbers_from 1 plan.links)

-- the line of a frame in a forwarding loop, if there is one
abbrev pub round_line : Plan → Record → Option FrameId → List ℕ
round_line plan rec None = []
round_line plan rec (Some frame) = codes "loops over" ++ passed_words plan rec frame ++ (codes "; ended after 1000 events" ++ 10 ∷ [])

-- a customer port delivered a frame
abbrev pub is_delivery : Step → Bool
is_delivery (Deliver item gone) = true
is_delivery _ = false

-- the port's name, if it did
abbrev pub left_word : Plan → Record → ℕ → List ℕ
left_word plan rec port = if list_any is_delivery (steps_of rec.customers port) then codes " " ++ port_name plan port else []

-- the customer ports that did, in the plan's order
abbrev pub left_words : Plan → Record → List ℕ
left_words plan rec = flat_map (left_word plan rec) (numbers_from 1 plan.customers)

-- the customer ports that delivered frames, or that none did
abbrev pub left_text : List ℕ → List ℕ
left_text names = if length names == 0 then codes "not delivered" else codes "delivered at" ++ names

-- a frame is dropped for a reason, or as there is no port for it
abbrev pub drops_frame : Outcome → Bool
drops_frame (Relayed chosen refused) = length chosen == 0
drops_frame (Filtered reason) = true
drops_frame Heard = false

-- the customer frame that a bridge dropped in a step
abbrev pub drops : Step → ℕ
drops (Receive port item learnt outcome moved) = if is_some item.mark && drops_frame outcome then 1 else 0
drops _ = 0

-- the customer frames that bridges dropped
abbrev pub dropped : List (List Step) → ℕ
dropped bridges = sum_by (λ steps. sum_by drops steps) bridges

-- the ports that got no copy
abbrev pub refused_by : Outcome → ℕ
refused_by (Relayed chosen refused) = length refused
refused_by _ = 0

-- the copies of customer frames that were refused in a step
abbrev pub refusals : Step → ℕ
refusals (Receive port item learnt outcome moved) = if is_some item.mark then refused_by outcome else 0
refusals _ = 0

-- the copies of customer frames that bridges refused
abbrev pub refused : List (List Step) → ℕ
refused bridges = sum_by (λ steps. sum_by refusals steps) bridges

-- the customer frames that a step lost
abbrev pub losses : Step → ℕ
losses (Take number item lost) = if lost && is_some item.mark then 1 else 0
losses _ = 0

-- the customer frames that lanes lost
abbrev pub lost : List (List Step) → ℕ
lost lanes = sum_by (λ steps. sum_by losses steps) lanes

-- the numbers of dropped frames, refused copies and lost frames
abbrev pub counts_text : ℕ → ℕ → ℕ → List ℕ
counts_text dropped refused lost =
    codes "; dropped " ++ decimal dropped ++ codes "; refused " ++ decimal refused ++ codes "; lost " ++ decimal lost ++ 10 ∷ []

-- the summary: where frames were delivered, and how many were dropped, refused and lost
abbrev pub summary_line : Plan → Record → List ℕ
summary_line plan rec = left_text (left_words plan rec) ++ counts_text (dropped rec.bridges) (refused rec.bridges) (lost rec.lanes)
