-- Bridges, customer ports and services in an SVG picture.
use Rattle.std.specs.Prelude.{ℕ, Bool, true, false, List, [], ◌++◌, ◌/◌, unwrap_or, codes}
use Rattle.std.specs.Fmt.{decimal}
use Rattle.std.specs.Option.{option_map}
use Rattle.pb_lan.specs.Numbering.{numbered}
use Rattle.pb_lan.specs.declared.plan.Plan.{Plan}
use Rattle.pb_lan.specs.declared.plan.BridgePlan.{BridgePlan}
use Rattle.pb_lan.specs.declared.plan.CustomerPlan.{CustomerPlan}
use Rattle.pb_lan.specs.declared.plan.ServicePlan.{ServicePlan}
use Rattle.pb_names.specs.Names.{bridge_name, service_name}
use Rattle.pb_cmd_draw.specs.Titles.{bridge_words, port_words}
use Rattle.pb_cmd_draw.specs.Words.{tone_word, bridge_word, role_of, site_word, colour_of, dashes_of}
use Rattle.pb_draw_layout.specs.declared.facts.BridgeFacts.{BridgeFacts}
use Rattle.pb_draw_layout.specs.declared.facts.PortFacts.{PortFacts}
use Rattle.pb_draw_layout.specs.declared.facts.ServiceFacts.{ServiceFacts}
use Rattle.pb_draw_layout.specs.declared.scene.BridgeMark.{BridgeMark}
use Rattle.pb_draw_layout.specs.declared.scene.Point.{Point}
use Rattle.pb_draw_layout.specs.declared.scene.PortMark.{PortMark}
use Rattle.pb_draw_layout.specs.declared.scene.ServiceMark.{ServiceMark}

-- the rectangle of a box
abbrev pub rect_text : Point → List ℕ
rect_text size = codes "<rect width=\"" ++ decimal size.x ++ codes "\" height=\"" ++ decimal size.y ++ codes "\" rx=\"6\"/>"

-- a root has that word in its box
abbrev pub root_text : Bool → Point → List ℕ
root_text false size = []
root_text true size = codes "<text class=\"root\" x=\"" ++ decimal (size.x / 2) ++ codes "\" y=\"14\">root</text>"

-- the cross over a box
abbrev pub cross_lines : Point → List ℕ
cross_lines size =
    codes "<path d=\"M0 0L" ++ decimal size.x ++ codes " " ++ decimal size.y ++ codes "M" ++ decimal size.x ++ codes " 0L0 " ++ decimal size.y ++ codes "\"/>"

-- a bridge that has failed is crossed out
abbrev pub cross_text : Bool → Point → List ℕ
cross_text false size = []
cross_text true size = cross_lines size

-- both signs
abbrev pub signs_text : BridgeFacts → Point → List ℕ
signs_text facts size = root_text facts.is_root size ++ cross_text facts.is_failed size

-- the name in a box
abbrev pub box_name : Point → List ℕ → List ℕ
box_name size name = codes "<text x=\"" ++ decimal (size.x / 2) ++ codes "\" y=\"29\">" ++ name ++ codes "</text></g>\n"

-- a bridge's box, with its signs and its name
abbrev pub box_text : BridgeFacts → Point → List ℕ → List ℕ
box_text facts size name = rect_text size ++ signs_text facts size ++ box_name size name

-- the end of a group's opening tag: its position
abbrev pub place_text : Point → List ℕ
place_text corner = codes "transform=\"translate(" ++ decimal corner.x ++ codes " " ++ decimal corner.y ++ codes ")\">"

-- the beginning of a bridge's group: its identifier and its classes
unfoldable pub box_class : List ℕ → BridgeFacts → List ℕ
box_class name facts =
    codes "<g id=\"bridge-" ++ name ++ codes "\" class=\"bridge " ++ bridge_word facts.is_failed ++ codes " " ++ tone_word facts.tone ++ codes "\" "

-- the attributes that describe a bridge
unfoldable pub box_data : List ℕ → BridgeFacts → List ℕ
box_data name facts =
    codes "data-bridge=\"" ++ name ++ codes "\" data-role=\"" ++ role_of facts.is_root ++ codes "\" data-state=\"" ++ bridge_word facts.is_failed ++ codes "\" "

-- the opening tag of a bridge's group
abbrev pub box_group : List ℕ → BridgeFacts → Point → List ℕ
box_group name facts corner = box_class name facts ++ box_data name facts ++ place_text corner

-- the title of a bridge
abbrev pub bridge_title : BridgePlan → List ℕ
bridge_title b = codes "<title>" ++ bridge_words b ++ codes "</title>"

-- the box of a bridge, with its title
abbrev pub known_bridge : BridgePlan → BridgeMark → List ℕ
known_bridge b mark = box_group b.name mark.facts mark.corner ++ bridge_title b ++ box_text mark.facts mark.size b.name

-- the box of the bridge with the mark's number
abbrev pub bridge_element : Plan → BridgeMark → List ℕ
bridge_element plan mark = unwrap_or (option_map (λ b. known_bridge b mark) (numbered plan.bridges mark.facts.number)) []

-- the sign of a customer port that is cut off
abbrev pub cut_sign : Bool → List ℕ
cut_sign true = codes "<path class=\"cut\" d=\"M5-10l12 12m0-12l-12 12\"/>"
cut_sign false = []

-- the bar of a customer port, the sign if it is cut off, and the two names after it
abbrev pub bar_text : Bool → List ℕ → List ℕ → List ℕ
bar_text cut_off one other = codes "<path d=\"M0-4h22\"/>" ++ cut_sign cut_off ++ codes "<text x=\"30\">" ++ one ++ codes " " ++ other ++ codes "</text></g>\n"

-- the beginning of a customer port's group: its identifier and its classes
unfoldable pub port_class : List ℕ → PortFacts → List ℕ
port_class name facts =
    codes "<g id=\"port-" ++ name ++ codes "\" class=\"port c" ++ decimal (colour_of facts.service) ++ codes " d" ++ decimal (dashes_of facts.service)
    ++ codes " " ++ tone_word facts.tone ++ codes " " ++ site_word facts.is_cut_off ++ codes "\" "

-- the attributes that describe a customer port
unfoldable pub port_data : Plan → CustomerPlan → List ℕ → Bool → List ℕ
port_data plan c service cut_off =
    codes "data-port=\"" ++ c.name ++ codes "\" data-bridge=\"" ++ bridge_name plan c.bridge ++ codes "\" data-service=\"" ++ service
    ++ codes "\" data-state=\"" ++ site_word cut_off ++ codes "\" "

-- the opening tag of a customer port's group
abbrev pub port_group : Plan → CustomerPlan → PortMark → List ℕ → List ℕ
port_group plan c mark service =
    port_class c.name mark.facts ++ port_data plan c service mark.facts.is_cut_off ++ place_text mark.corner

-- the title of a customer port
abbrev pub port_title : Plan → CustomerPlan → List ℕ → List ℕ
port_title plan c service = codes "<title>" ++ port_words plan c service ++ codes "</title>"

-- the line of a customer port in its bridge's box, with its title
abbrev pub port_of : Plan → CustomerPlan → PortMark → List ℕ → List ℕ
port_of plan c mark service =
    port_group plan c mark service ++ port_title plan c service ++ bar_text mark.facts.is_cut_off c.name service

-- that line, with the name of the port's service
abbrev pub known_port : Plan → CustomerPlan → PortMark → List ℕ
known_port plan c mark = port_of plan c mark (service_name plan mark.facts.service)

-- the line of the customer port with the mark's number
abbrev pub port_element : Plan → PortMark → List ℕ
port_element plan mark = unwrap_or (option_map (λ c. known_port plan c mark) (numbered plan.customers mark.facts.number)) []

-- the beginning of a service's group: its identifier and its classes
abbrev pub service_class : List ℕ → ServiceFacts → List ℕ
service_class name facts =
    codes "<g id=\"service-" ++ name ++ codes "\" class=\"service c" ++ decimal (colour_of facts.number) ++ codes " d" ++ decimal (dashes_of facts.number)
    ++ codes " " ++ tone_word facts.tone ++ codes "\" "

-- the attributes that describe a service
abbrev pub service_data : List ℕ → ℕ → List ℕ
service_data name vid = codes "data-service=\"" ++ name ++ codes "\" data-vid=\"" ++ decimal vid ++ codes "\" "

-- the opening tag of a service's group
abbrev pub service_group : ServicePlan → ServiceMark → List ℕ
service_group s mark = service_class s.name mark.facts ++ service_data s.name s.vid ++ place_text mark.corner

-- the title of a service
abbrev pub service_title : ServicePlan → List ℕ
service_title s = codes "<title>service " ++ s.name ++ codes ", VID " ++ decimal s.vid ++ codes "</title>"

-- the bar of a service, its name and its VID
abbrev pub service_bar : ServicePlan → List ℕ
service_bar s = codes "<path d=\"M0-4h22\"/><text x=\"30\">" ++ s.name ++ codes " " ++ decimal s.vid ++ codes "</text></g>\n"

-- the line of a service in the legend
abbrev pub known_service : ServicePlan → ServiceMark → List ℕ
known_service s mark = service_group s mark ++ service_title s ++ service_bar s

-- the line of the service with the mark's number
abbrev pub service_element : Plan → ServiceMark → List ℕ
service_element plan mark = unwrap_or (option_map (λ s. known_service s mark) (numbered plan.services mark.facts.number)) []
