-- What a picture shows of the reports of a trace.
use Rattle.std.specs.Prelude.{ℕ, List, [], ◌∷◌, map, length, ◌==◌, if◌then◌else◌}
use Rattle.pb_cmd_trace.specs.declared.lines.TraceLine.{TraceLine}
use Rattle.pb_cmd_trace.specs.declared.lines.TraceLine.TheVariants.{Entered as entered_line, Waits, Went, Others}
use Rattle.pb_cmd_trace.specs.declared.onward.Onward.{Onward}
use Rattle.pb_cmd_trace.specs.declared.onward.Onward.TheVariants.{Feed, Deliver, Receive, Transmit, Take, Put}
use Rattle.pb_frame.specs.Tags.{has_service_tag, priority_of, vid_of}
use Rattle.pb_lan.specs.declared.step.NoRoom.{NoRoom}
use Rattle.pb_lan.specs.declared.step.Outcome.{Outcome}
use Rattle.pb_lan.specs.declared.step.Outcome.TheVariants.{Relayed, Filtered, Heard}
use Rattle.pb_lan.specs.declared.step.Step.{Step}
use Rattle.pb_lan.specs.declared.step.Step.TheVariants.{Deliver as Delivers, Receive as Receives, Take as Takes}
use Rattle.pb_trace_svg.specs.declared.hops.Cause.TheVariants.{Filtered as was_filtered, NoPort}
use Rattle.pb_trace_svg.specs.declared.hops.Hop.{Hop}
use Rattle.pb_trace_svg.specs.declared.hops.Hop.TheVariants.{Entered, Crossed, Dropped, Refused, Delivered}
use Rattle.pb_trace_svg.specs.declared.hops.Tag.{Tag}
use Rattle.pb_trace_svg.specs.declared.hops.Tag.TheVariants.{Service, Untagged}

-- the tag of a frame
abbrev pub tag_of : List ℕ → Tag
tag_of wire = if has_service_tag wire then Service (vid_of wire) (priority_of wire) else Untagged

-- a bridge dropped the copy for a port
abbrev pub refusal : ℕ → ℕ × NoRoom → Hop
refusal bridge r = Refused bridge r.0 r.1

-- a bridge received a frame at a port: it dropped the frame, or copies of it, or neither
abbrev pub dropped_by : ℕ → ℕ → Outcome → List Hop
dropped_by bridge port (Relayed chosen refused) =
    if length chosen == 0 then Dropped bridge port NoPort ∷ [] else map (refusal bridge) refused
dropped_by bridge port (Filtered reason) = Dropped bridge port (was_filtered reason) ∷ []
dropped_by bridge port Heard = []

-- the same, by the Receive step
abbrev pub received_by : ℕ → ℕ → Step → List Hop
received_by bridge port (Receives at item learnt outcome moved) = dropped_by bridge port outcome
received_by bridge port _ = []

-- a link carried or lost a frame, by the Take step of a lane
abbrev pub taken_by : ℕ → Step → List Hop
taken_by lane (Takes number item lost) = Crossed lane (tag_of item.wire) lost ∷ []
taken_by lane _ = []

-- a customer port delivered or lost a frame, by its Deliver step
abbrev pub delivered_by : ℕ → Step → List Hop
delivered_by port (Delivers item gone) = Delivered port gone ∷ []
delivered_by port _ = []

-- the hops of the step of an event
abbrev pub hops_at : Onward → Step → List Hop
hops_at (Feed port) step = []
hops_at (Deliver port) step = delivered_by port step
hops_at (Receive bridge port) step = received_by bridge port step
hops_at (Transmit bridge port) step = []
hops_at (Take lane) step = taken_by lane step
hops_at (Put lane) step = []

-- the hops of a report
abbrev pub hops_of : TraceLine → List Hop
hops_of (entered_line port step) = Entered port ∷ []
hops_of Waits = []
hops_of (Went event step known) = hops_at event step
hops_of (Others others) = []
