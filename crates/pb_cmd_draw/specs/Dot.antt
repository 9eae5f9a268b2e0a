-- A scene as a graph in the language DOT.
use Rattle.std.specs.Prelude.{ℕ, Bool, true, false, List, [], ◌++◌, ◌==◌, if◌then◌else◌, unwrap_or, flat_map, codes}
use Rattle.std.specs.Fmt.{decimal}
use Rattle.std.specs.Option.{option_map}
use Rattle.pb_lan.specs.Numbering.{numbered}
use Rattle.pb_lan.specs.declared.plan.Plan.{Plan}
use Rattle.pb_lan.specs.declared.plan.BridgePlan.{BridgePlan}
use Rattle.pb_lan.specs.declared.plan.CustomerPlan.{CustomerPlan}
use Rattle.pb_lan.specs.declared.plan.LinkPlan.{LinkPlan}
use Rattle.pb_lan.specs.declared.shape.PortState.{PortState}
use Rattle.pb_lan.specs.declared.shape.PortState.TheVariants.{Discarding, Learning, Forwarding}
use Rattle.pb_names.specs.Names.{service_name}
use Rattle.pb_cmd_draw.specs.Lists.{list_lines}
use Rattle.pb_cmd_draw.specs.Titles.{bridge_words, link_words, port_words}
use Rattle.pb_cmd_draw.specs.Words.{losing_word, colour_of}
use Rattle.pb_draw_layout.specs.declared.facts.Tone.{Tone}
use Rattle.pb_draw_layout.specs.declared.facts.Tone.TheVariants.{Plain, Lit, Faint}
use Rattle.pb_draw_layout.specs.declared.facts.BridgeFacts.{BridgeFacts}
use Rattle.pb_draw_layout.specs.declared.facts.LinkFacts.{LinkFacts}
use Rattle.pb_draw_layout.specs.declared.facts.LinkState.{LinkState}
use Rattle.pb_draw_layout.specs.declared.facts.LinkState.TheVariants.{Active, Standby, Failed}
use Rattle.pb_draw_layout.specs.declared.facts.PortFacts.{PortFacts}
use Rattle.pb_draw_layout.specs.declared.scene.BridgeMark.{BridgeMark}
use Rattle.pb_draw_layout.specs.declared.scene.LinkMark.{LinkMark}
use Rattle.pb_draw_layout.specs.declared.scene.PortMark.{PortMark}
use Rattle.pb_draw_layout.specs.declared.scene.Scene.{Scene}

-- the end of an attribute list, with the style of a tone
abbrev pub tone_style : Tone → List ℕ
tone_style Plain = codes "\"];\n"
tone_style Lit = codes "\", penwidth=3];\n"
tone_style Faint = codes "\", color=gray80, fontcolor=gray60];\n"

-- a link on standby is dashed and grey, and one that has failed is red
abbrev pub active_style : LinkState → List ℕ
active_style Active = []
active_style Standby = codes "style=dashed, color=gray50, "
active_style Failed = codes "color=red, fontcolor=red, "

-- the arrow shape for the state of a link's end
abbrev pub arrow_word : PortState → List ℕ
arrow_word Discarding = codes "box"
arrow_word Learning = codes "odot"
arrow_word Forwarding = codes "none"

-- the colours of services
abbrev pub colour_code : ℕ → List ℕ
colour_code colour =
    if colour == 0 then codes "#0072b2" else if colour == 1 then codes "#e69f00" else if colour == 2 then codes "#009e73"
    else if colour == 3 then codes "#cc79a7" else if colour == 4 then codes "#56b4e9" else if colour == 5 then codes "#d55e00"
    else if colour == 6 then codes "#aa4499" else codes "#999933"

-- the box of a bridge that has failed is red, and that of a root has a double line
abbrev pub node_style : BridgeFacts → List ℕ
node_style facts = if facts.is_failed then codes "color=red, fontcolor=red, " else if facts.is_root then codes "peripheries=2, " else []

-- the beginning of a bridge's node
abbrev pub node_head : BridgeFacts → List ℕ → List ℕ
node_head facts name =
    codes "b" ++ decimal facts.number ++ codes " [shape=box, " ++ node_style facts ++ codes "label=\"" ++ name ++ codes "\", tooltip=\""

-- the node of a bridge
abbrev pub known_node : BridgePlan → BridgeMark → List ℕ
known_node b mark = node_head mark.facts b.name ++ bridge_words b ++ tone_style mark.facts.tone

-- the node of the bridge with the mark's number
abbrev pub bridge_node : Plan → BridgeMark → List ℕ
bridge_node plan mark = unwrap_or (option_map (λ b. known_node b mark) (numbered plan.bridges mark.facts.number)) []

-- the nodes and ports at the ends of a link's edge
abbrev pub edge_ends : LinkPlan → List ℕ
edge_ends link =
    codes "b" ++ decimal link.a.bridge ++ codes " -- b" ++ decimal link.b.bridge ++ codes " [taillabel=\"" ++ decimal link.a.port
    ++ codes "\", headlabel=\"" ++ decimal link.b.port ++ codes "\", dir=both, "

-- the arrows of a link's edge, by the states of its ends, and its style
abbrev pub arrows_text : LinkFacts → List ℕ
arrows_text facts = codes "arrowtail=" ++ arrow_word facts.a ++ codes ", arrowhead=" ++ arrow_word facts.b ++ codes ", " ++ active_style facts.state

-- the lists of services of a link, each in a line of its own, if the graph shows them
abbrev pub edge_lists : Plan → Bool → LinkPlan → List ℕ
edge_lists plan false link = []
edge_lists plan true link = list_lines (codes "\\n") [] plan link

-- the name of a link and its mark, as the beginning of a label
abbrev pub edge_name : LinkPlan → List ℕ
edge_name link = codes "label=\"" ++ link.name ++ losing_word link

-- the label of a link's edge
abbrev pub edge_label : Plan → Bool → LinkPlan → List ℕ
edge_label plan lists link = edge_name link ++ edge_lists plan lists link ++ codes "\", tooltip=\""

-- the beginning of a link's edge, up to its tooltip
abbrev pub edge_head : Plan → Bool → LinkPlan → LinkFacts → List ℕ
edge_head plan lists link facts = edge_ends link ++ arrows_text facts ++ edge_label plan lists link

-- the edge of a link
abbrev pub known_edge : Plan → Bool → LinkPlan → LinkFacts → List ℕ
known_edge plan lists link facts = edge_head plan lists link facts ++ link_words plan link facts ++ tone_style facts.tone

-- the edge of the link with the mark's number
abbrev pub link_edge : Plan → Bool → LinkMark → List ℕ
link_edge plan lists mark = unwrap_or (option_map (λ link. known_edge plan lists link mark.facts) (numbered plan.links mark.facts.number)) []

-- the beginning of a customer port's node
abbrev pub leaf_head : List ℕ → List ℕ → PortFacts → List ℕ
leaf_head name service facts =
    codes "p" ++ decimal facts.number ++ codes " [color=\"" ++ colour_code (colour_of facts.service) ++ codes "\", label=\"" ++ name ++ codes " " ++ service
    ++ codes "\", tooltip=\""

-- the node of a customer port
abbrev pub leaf_node : Plan → CustomerPlan → List ℕ → PortFacts → List ℕ
leaf_node plan c service facts = leaf_head c.name service facts ++ port_words plan c service ++ tone_style facts.tone

-- the beginning of the edge from a bridge to a customer port
abbrev pub leaf_edge : ℕ → PortFacts → List ℕ
leaf_edge bridge facts =
    codes "b" ++ decimal bridge ++ codes " -- p" ++ decimal facts.number ++ codes " [color=\"" ++ colour_code (colour_of facts.service)

-- the node of a customer port, and its edge to the bridge
abbrev pub known_leaf : Plan → CustomerPlan → PortFacts → List ℕ
known_leaf plan c facts = leaf_node plan c (service_name plan facts.service) facts ++ leaf_edge c.bridge facts ++ tone_style facts.tone

-- the node and the edge of the customer port with the mark's number
abbrev pub port_node : Plan → PortMark → List ℕ
port_node plan mark = unwrap_or (option_map (λ c. known_leaf plan c mark.facts) (numbered plan.customers mark.facts.number)) []

-- the nodes and edges of all parts, in order
abbrev pub parts_text : Plan → Bool → Scene → List ℕ
parts_text plan lists scene =
    flat_map (bridge_node plan) scene.bridges ++ flat_map (link_edge plan lists) scene.links ++ flat_map (port_node plan) scene.ports

-- the graph, with the lists of services at links or without
abbrev pub dot_text : Plan → Bool → Scene → List ℕ
dot_text plan lists scene = codes "graph network {\n" ++ parts_text plan lists scene ++ codes "}\n"
