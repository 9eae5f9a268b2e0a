-- The titles of the parts of a network, which a viewer shows under the pointer.
use Rattle.std.specs.Prelude.{ℕ, Bool, List, [], ◌++◌, length, codes, if◌then◌else◌}
use Rattle.std.specs.Fmt.{decimal}
use Rattle.pb_forest.specs.ServiceVids.{vid_numbered}
use Rattle.pb_frame.specs.Hex.{mac_text}
use Rattle.pb_lan.specs.declared.plan.Plan.{Plan}
use Rattle.pb_lan.specs.declared.plan.BridgePlan.{BridgePlan}
use Rattle.pb_lan.specs.declared.plan.CustomerPlan.{CustomerPlan}
use Rattle.pb_lan.specs.declared.plan.End.{End}
use Rattle.pb_lan.specs.declared.plan.LinkPlan.{LinkPlan}
use Rattle.pb_lan.specs.declared.shape.PortState.{PortState}
use Rattle.pb_names.specs.Names.{bridge_name}
use Rattle.pb_cmd_draw.specs.Words.{end_word, is_lossless}
use Rattle.pb_draw_layout.specs.declared.facts.LinkFacts.{LinkFacts}

-- a bridge: its name, its address and its priority
abbrev pub bridge_words : BridgePlan → List ℕ
bridge_words b = codes "bridge " ++ b.name ++ codes ", address " ++ mac_text b.address.0 ++ codes ", priority " ++ decimal b.priority

-- an end of a link: its bridge, its port, and the port's state, or that it is disabled
abbrev pub end_words : Plan → End → Bool → PortState → List ℕ
end_words plan e disabled state =
    bridge_name plan e.bridge ++ codes " port " ++ decimal e.port ++ codes " " ++ end_word disabled state

-- the number of frames that a link loses in each direction, if it loses any
abbrev pub losses_text : Plan → LinkPlan → List ℕ
losses_text plan link =
    if is_lossless link then [] else
    codes ", loses " ++ decimal (length link.lost_ab) ++ codes " to " ++ bridge_name plan link.b.bridge
    ++ codes " and " ++ decimal (length link.lost_ba) ++ codes " to " ++ bridge_name plan link.a.bridge

-- a link: its name, its ends with their states, and its losses
abbrev pub link_words : Plan → LinkPlan → LinkFacts → List ℕ
link_words plan link facts =
    codes "link " ++ link.name ++ codes ": " ++ end_words plan link.a facts.failed.a facts.a ++ codes ", "
    ++ end_words plan link.b facts.failed.b facts.b ++ losses_text plan link

-- a customer port: its name, its bridge and local port, its service and the VID
abbrev pub port_words : Plan → CustomerPlan → List ℕ → List ℕ
port_words plan c service =
    codes "port " ++ c.name ++ codes ": " ++ bridge_name plan c.bridge ++ codes " port " ++ decimal c.port
    ++ codes ", service " ++ service ++ codes ", VID " ++ decimal (vid_numbered plan c.service)
