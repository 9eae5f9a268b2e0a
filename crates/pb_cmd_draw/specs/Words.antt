-- Words, colours and dashes of a picture.
use Rattle.std.specs.Prelude.{ℕ, Bool, true, false, List, [], length, codes, ◌==◌, ◌&&◌, ◌+◌, ◌/◌, ◌%◌, if◌then◌else◌}
use Rattle.pb_lan.specs.declared.plan.LinkPlan.{LinkPlan}
use Rattle.pb_lan.specs.declared.shape.PortState.{PortState}
use Rattle.pb_names.specs.Names.{state_word}
use Rattle.pb_draw_layout.specs.declared.facts.LinkState.{LinkState}
use Rattle.pb_draw_layout.specs.declared.facts.LinkState.TheVariants.{Active, Standby, Failed}
use Rattle.pb_draw_layout.specs.declared.facts.Tone.{Tone}
use Rattle.pb_draw_layout.specs.declared.facts.Tone.TheVariants.{Plain, Lit, Faint}

-- the word for a tone
abbrev pub tone_word : Tone → List ℕ
tone_word Plain = codes "plain"
tone_word Lit = codes "lit"
tone_word Faint = codes "faint"

-- the word for the state of a link
abbrev pub link_word : LinkState → List ℕ
link_word Active = codes "active"
link_word Standby = codes "standby"
link_word Failed = codes "failed"

-- the word for the state of an end of a link, which is disabled or not
abbrev pub end_word : Bool → PortState → List ℕ
end_word true state = codes "disabled"
end_word false state = state_word state

-- the word for a bridge that has failed or not
abbrev pub bridge_word : Bool → List ℕ
bridge_word true = codes "failed"
bridge_word false = codes "up"

-- the word for a bridge that is a root or not
abbrev pub role_of : Bool → List ℕ
role_of true = codes "root"
role_of false = codes "bridge"

-- the word for a customer port that is cut off or not
abbrev pub site_word : Bool → List ℕ
site_word true = codes "cut-off"
site_word false = codes "up"

-- the link loses no frame
abbrev pub is_lossless : LinkPlan → Bool
is_lossless link = length link.lost_ab == 0 && length link.lost_ba == 0

-- what follows the name of a link that loses frames
abbrev pub losing_word : LinkPlan → List ℕ
losing_word link = if is_lossless link then [] else codes " (loses)"

-- the colour of a service, 0 to 7
abbrev pub colour_of : ℕ → ℕ
colour_of service = (service + 7) % 8

-- the dashes of a service's bar, from 1: 1 is a solid bar, for the first eight services
abbrev pub dashes_of : ℕ → ℕ
dashes_of service = (service + 7) / 8
