-- A scene as an SVG picture.
use Rattle.std.specs.Prelude.{ℕ, Bool, false, List, ◌++◌, Some, None, flat_map, length, codes}
use Rattle.std.specs.Fmt.{decimal}
use Rattle.std.specs.declared.option.Option.{Option}
use Rattle.pb_lan.specs.declared.plan.Plan.{Plan}
use Rattle.pb_cmd_draw.specs.SvgBoxes.{bridge_element, port_element, service_element}
use Rattle.pb_cmd_draw.specs.SvgKeys.{key_element}
use Rattle.pb_cmd_draw.specs.SvgLinks.{link_element, ends_element}
use Rattle.pb_cmd_draw.specs.Words.{colour_of}
use Rattle.pb_draw_layout.specs.declared.scene.Point.{Point}
use Rattle.pb_draw_layout.specs.declared.scene.Scene.{Scene}
use Rattle.pb_cmd_draw.specs.declared.style.TheConstants.{STYLE}

-- the opening tag of the group of all elements, with the colour of the highlighted service
abbrev pub group_text : Option ℕ → List ℕ
group_text None = codes "<g>\n"
group_text (Some service) = codes "<g class=\"c" ++ decimal (colour_of service) ++ codes "\">\n"

-- the opening tag, with the size of the picture
abbrev pub opening_text : Point → List ℕ
opening_text size =
    codes "<svg xmlns=\"http://www.w3.org/2000/svg\" width=\"" ++ decimal size.x ++ codes "\" height=\"" ++ decimal size.y
    ++ codes "\" viewBox=\"0 0 " ++ decimal size.x ++ codes " " ++ decimal size.y ++ codes "\">\n"

-- the number of bridges and links, as the picture's title
abbrev pub counts_text : Scene → List ℕ
counts_text scene = codes "<title>Bridges " ++ decimal (length scene.bridges) ++ codes ", links " ++ decimal (length scene.links) ++ codes "</title>\n"

-- the background
abbrev pub ground_text : Point → List ℕ
ground_text size = codes "<rect class=\"ground\" width=\"" ++ decimal size.x ++ codes "\" height=\"" ++ decimal size.y ++ codes "\"/>\n"

-- all that comes before the elements
abbrev pub head_text : Scene → List ℕ
head_text scene =
    opening_text scene.size ++ counts_text scene ++ STYLE.now ++ ground_text scene.size ++ group_text scene.chosen

-- the lines of links, the boxes of bridges, and customer ports
abbrev pub boxes_text : Plan → Scene → List ℕ
boxes_text plan scene =
    flat_map (link_element plan) scene.links ++ flat_map (bridge_element plan) scene.bridges ++ flat_map (port_element plan) scene.ports

-- an element for each part, in order; links have two: their lines come first, and their names and ends after the boxes
abbrev pub parts_text : Plan → Bool → Scene → List ℕ
parts_text plan lists scene = boxes_text plan scene ++ flat_map (ends_element plan lists) scene.links

-- the legend
abbrev pub legend_text : Plan → Scene → List ℕ
legend_text plan scene = flat_map key_element scene.keys ++ flat_map (service_element plan) scene.services

-- the parts and the legend
abbrev pub elements_text : Plan → Bool → Scene → List ℕ
elements_text plan lists scene = parts_text plan lists scene ++ legend_text plan scene

-- the picture, with the lists of services at links or without
abbrev pub svg_text : Plan → Bool → Scene → List ℕ
svg_text plan lists scene = head_text scene ++ elements_text plan lists scene ++ codes "</g>\n</svg>\n"

-- the parts, with more elements before the names of links
abbrev pub parts_with : Plan → Scene → List ℕ → List ℕ
parts_with plan scene more = boxes_text plan scene ++ more ++ flat_map (ends_element plan false) scene.links

-- the picture without lists, with those
abbrev pub svg_with : Plan → Scene → List ℕ → List ℕ
svg_with plan scene more = head_text scene ++ parts_with plan scene more ++ legend_text plan scene ++ codes "</g>\n</svg>\n"
