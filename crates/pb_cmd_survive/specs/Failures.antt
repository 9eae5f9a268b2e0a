-- The failures, and the ports that they disable.
use Rattle.std.specs.Prelude.{ℕ, ◌+◌, Bool, true, false, List, [], ◌∷◌, ◌++◌, map, ◌==◌, ◌||◌, string_bytes, if◌then◌else◌}
use Rattle.std.specs.Global.{Global}
use Rattle.std.specs.List.{list_any}
use Rattle.std.specs.declared.string.String.{String}
use Rattle.pb_frame.specs.Admission.{same}
use Rattle.pb_lan.specs.Numbering.{numbers_from}
use Rattle.pb_lan.specs.declared.event.Event.{Event}
use Rattle.pb_lan.specs.declared.event.Event.TheVariants.{Admin}
use Rattle.pb_lan.specs.declared.plan.Plan.{Plan}
use Rattle.pb_lan.specs.declared.plan.End.{End}
use Rattle.pb_lan.specs.declared.plan.LinkPlan.{LinkPlan}
use Rattle.pb_names.specs.Names.{bridge_name}
use Rattle.pb_cmd_survive.specs.declared.failure.Failure.{Failure}
use Rattle.pb_cmd_survive.specs.declared.failure.Failure.TheVariants.{Nothing, Link, Pair, Bridge}
use Rattle.pb_cmd_survive.specs.declared.failure.Kinds.{Kinds}

-- each link with each later one
abbrev pub pairs_of : List ℕ → List Failure
pairs_of [] = []
pairs_of (number ∷ later) = map (Pair number) later ++ pairs_of later

-- each link, then each bridge and each two links if those kinds are requested
abbrev pub all_failures : Plan → Kinds → List Failure
all_failures plan kinds =
    map Link (numbers_from 1 plan.links)
    ++ (if kinds.bridges then map Bridge (numbers_from 1 plan.bridges) else [])
    ++ (if kinds.pairs then pairs_of (numbers_from 1 plan.links) else [])

-- the kind of a failure
abbrev pub is_link : Failure → Bool
is_link (Link number) = true
is_link Nothing = false
is_link (Pair first second) = false
is_link (Bridge number) = false

abbrev pub is_bridge : Failure → Bool
is_bridge (Bridge number) = true
is_bridge Nothing = false
is_bridge (Link number) = false
is_bridge (Pair first second) = false

abbrev pub is_pair : Failure → Bool
is_pair (Pair first second) = true
is_pair Nothing = false
is_pair (Link number) = false
is_pair (Bridge number) = false

-- the failure disables the link with this number
abbrev pub is_hit : Failure → ℕ → LinkPlan → Bool
is_hit Nothing number link = false
is_hit (Link failed) number link = number == failed
is_hit (Pair first second) number link = number == first || number == second
is_hit (Bridge failed) number link = link.a.bridge == failed || link.b.bridge == failed

-- the failure is that of the bridge with this number
abbrev pub is_failed : Failure → ℕ → Bool
is_failed (Bridge failed) bridge = bridge == failed
is_failed Nothing bridge = false
is_failed (Link failed) bridge = false
is_failed (Pair first second) bridge = false

-- the text is the name of the bridge with this number
abbrev pub has_name : Plan → ℕ → String Global → Bool
has_name plan bridge w = same (string_bytes w) (bridge_name plan bridge)

-- the bridge is out: the failure is its own, or one of the names of what is down is its name
abbrev pub is_out : Plan → List (String Global) → Failure → ℕ → Bool
is_out plan names failure bridge = is_failed failure bridge || list_any (has_name plan bridge) names

-- the event that disables the port at an end of a link
abbrev pub set_down : End → Event
set_down e = Admin e.bridge e.port false

-- the events that disable both ends of a link, if it fails
abbrev pub downs_of : Failure → ℕ → LinkPlan → List Event
downs_of failure number link = if is_hit failure number link then set_down link.a ∷ set_down link.b ∷ [] else []

-- those of the links from a number on
abbrev pub downs_from : Failure → ℕ → List LinkPlan → List Event
downs_from failure number [] = []
downs_from failure number (link ∷ links) = downs_of failure number link ++ downs_from failure (number + 1) links

-- those of all links of the plan
abbrev pub downs : Plan → Failure → List Event
downs plan failure = downs_from failure 1 plan.links
