-- The states of links as letters, with which the page's script redraws the picture.
use Rattle.std.specs.Prelude.{ℕ, ◌+◌, Bool, true, false, List, [], ◌∷◌, ◌++◌, codes, if◌then◌else◌}
use Rattle.pb_lan.specs.Shapes.{state_in}
use Rattle.pb_lan.specs.declared.plan.Plan.{Plan}
use Rattle.pb_lan.specs.declared.plan.LinkPlan.{LinkPlan}
use Rattle.pb_lan.specs.declared.shape.PortState.{PortState}
use Rattle.pb_lan.specs.declared.shape.PortState.TheVariants.{Discarding, Learning, Forwarding}
use Rattle.pb_lan.specs.declared.shape.Shape.{Shape}
use Rattle.pb_draw_layout.specs.Facts.{is_active_link}
use Rattle.pb_cmd_survive.specs.Failures.{is_hit}
use Rattle.pb_cmd_survive.specs.declared.failure.Failure.{Failure}

-- a port's state
abbrev pub state_letter : PortState → List ℕ
state_letter Discarding = codes "d"
state_letter Learning = codes "l"
state_letter Forwarding = codes "f"

-- a link is active or on standby
abbrev pub link_letter : Bool → List ℕ
link_letter true = codes "a"
link_letter false = codes "s"

-- a link and its two ends
abbrev pub live_letters : Plan → Shape → LinkPlan → List ℕ
live_letters plan shape link =
    link_letter (is_active_link plan shape link) ++ state_letter (state_in shape link.a.bridge link.a.port)
    ++ state_letter (state_in shape link.b.bridge link.b.port)

-- those, or that the failure disables it
abbrev pub link_letters : Plan → Shape → Failure → ℕ → LinkPlan → List ℕ
link_letters plan shape failure number link =
    if is_hit failure number link then codes "xxx" else live_letters plan shape link

-- those of the links from a number on
abbrev pub letters_of : Plan → Shape → Failure → ℕ → List LinkPlan → List ℕ
letters_of plan shape failure number [] = []
letters_of plan shape failure number (link ∷ links) =
    link_letters plan shape failure number link ++ letters_of plan shape failure (number + 1) links

-- the attribute of a row with the letters of all links
abbrev pub states_data : Plan → Shape → Failure → List ℕ
states_data plan shape failure = codes " data-states=\"" ++ letters_of plan shape failure 1 plan.links ++ codes "\""
