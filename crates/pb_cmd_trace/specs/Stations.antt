-- The stations that a bridge has learnt, by its steps.
use Rattle.std.specs.Prelude.{ℕ, Bool, false, List, ◌==◌, ◌&&◌, not, Some, None, if◌then◌else◌}
use Rattle.std.specs.List.{list_any}
use Rattle.std.specs.declared.option.Option.{Option}
use Rattle.pb_frame.specs.Admission.{same}
use Rattle.pb_frame.specs.Frames.{dst_of, src_of, is_group}
use Rattle.pb_frame.specs.Tags.{has_service_tag, vid_of}
use Rattle.pb_lan.specs.Choice.{is_noted}
use Rattle.pb_lan.specs.Ports.{vid_at}
use Rattle.pb_lan.specs.declared.plan.Plan.{Plan}
use Rattle.pb_lan.specs.declared.plan.CustomerPlan.{CustomerPlan}
use Rattle.pb_lan.specs.declared.step.Step.{Step}
use Rattle.pb_lan.specs.declared.step.Step.TheVariants.{Receive}
use Rattle.pb_names.specs.Places.{customer_at}
use Rattle.pb_cmd_trace.specs.declared.onward.Onward.{Onward}
use Rattle.pb_cmd_trace.specs.declared.onward.Onward.TheVariants.{Receive as Receives}

-- the VID of a received frame: that of the customer port's service, or of the frame's own tag
abbrev pub vid_by : Plan → Option CustomerPlan → List ℕ → Option ℕ
vid_by plan (Some customer) wire = Some (vid_at plan customer)
vid_by plan None wire = if has_service_tag wire then Some (vid_of wire) else None

-- the VID of a frame that a bridge received at a port
abbrev pub came_as : Plan → ℕ → ℕ → List ℕ → Option ℕ
came_as plan bridge port wire = vid_by plan (customer_at plan bridge port) wire

abbrev pub is_vid : ℕ → Option ℕ → Bool
is_vid vid None = false
is_vid vid (Some other) = other == vid

-- by this step the bridge has learnt the station in the service with the VID
abbrev pub shows : Plan → ℕ → ℕ → List ℕ → Step → Bool
shows plan bridge vid mac (Receive port item learnt outcome moved) =
    is_noted learnt && is_vid vid (came_as plan bridge port item.wire) && same (src_of item.wire) mac
shows plan bridge vid mac _ = false

-- by some step the bridge has learnt the station in the service with the VID
abbrev pub is_shown : Plan → ℕ → List Step → List ℕ → Option ℕ → Bool
is_shown plan bridge steps mac None = false
is_shown plan bridge steps mac (Some vid) = list_any (shows plan bridge vid mac) steps

-- the frame is for one station, and the bridge has learnt it by one of these steps
abbrev pub is_known : Plan → ℕ → List Step → ℕ → List ℕ → Bool
is_known plan bridge steps port wire = not (is_group (dst_of wire)) && is_shown plan bridge steps (dst_of wire) (came_as plan bridge port wire)

-- a bridge received the frame of the step at a port, and had learnt the station of its destination
abbrev pub known_by : Plan → ℕ → List Step → ℕ → Step → Bool
known_by plan bridge steps port (Receive at item learnt outcome moved) = is_known plan bridge steps port item.wire
known_by plan bridge steps port _ = false

-- so it did by the step of the event, which is the last one of its place
abbrev pub known_at : Plan → List Step → Onward → Step → Bool
known_at plan steps (Receives bridge port) step = known_by plan bridge steps port step
known_at plan steps _ step = false
