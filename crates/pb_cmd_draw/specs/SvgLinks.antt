-- Links in an SVG picture.
use Rattle.std.specs.Prelude.{ℕ, Bool, true, false, List, [], ◌++◌, ◌*◌, Some, None, unwrap_or, codes}
use Rattle.std.specs.Fmt.{decimal}
use Rattle.std.specs.Option.{option_map}
use Rattle.std.specs.declared.option.Option.{Option}
use Rattle.pb_lan.specs.Numbering.{numbered}
use Rattle.pb_lan.specs.declared.plan.Plan.{Plan}
use Rattle.pb_lan.specs.declared.plan.End.{End}
use Rattle.pb_lan.specs.declared.plan.LinkPlan.{LinkPlan}
use Rattle.pb_lan.specs.declared.shape.PortState.{PortState}
use Rattle.pb_lan.specs.declared.shape.PortState.TheVariants.{Discarding, Learning, Forwarding}
use Rattle.pb_names.specs.Names.{bridge_name}
use Rattle.pb_cmd_draw.specs.SvgLists.{link_lists}
use Rattle.pb_cmd_draw.specs.Titles.{link_words}
use Rattle.pb_cmd_draw.specs.Words.{tone_word, link_word, end_word, losing_word}
use Rattle.pb_draw_layout.specs.declared.facts.LinkFacts.{LinkFacts}
use Rattle.pb_draw_layout.specs.declared.facts.LinkState.{LinkState}
use Rattle.pb_draw_layout.specs.declared.scene.Lane.{Lane}
use Rattle.pb_draw_layout.specs.declared.scene.LinkMark.{LinkMark}
use Rattle.pb_draw_layout.specs.declared.scene.Point.{Point}
use Rattle.pb_draw_layout.specs.declared.scene.Route.{Route}
use Rattle.pb_cmd_draw.specs.declared.svg_links.ShownEnd.{ShownEnd}

-- a curve from a left coordinate to a point; both control points are at the same distance from the top
abbrev pub curve_text : ℕ → ℕ → Point → List ℕ
curve_text x bend to =
    codes "C" ++ decimal x ++ codes " " ++ decimal bend ++ codes " " ++ decimal to.x ++ codes " " ++ decimal bend ++ codes " " ++ decimal to.x ++ codes " " ++ decimal to.y

-- a link's path after its start: one curve, or one into a lane, the lane, and one out of it
abbrev pub way_text : Route → Option Lane → List ℕ
way_text route None = curve_text route.a.x route.bend route.b
way_text route (Some lane) =
    curve_text route.a.x route.bend (record { x = lane.x; y = lane.from_a }) ++ codes "V" ++ decimal lane.to_b ++ curve_text lane.x lane.bend route.b

-- a link's path
abbrev pub route_text : Route → List ℕ
route_text route = codes "M" ++ decimal route.a.x ++ codes " " ++ decimal route.a.y ++ way_text route route.lane

-- the beginning of a group of a link: its identifier, by its kind, and its classes
unfoldable pub link_class : List ℕ → List ℕ → LinkFacts → List ℕ
link_class kind name facts =
    codes "<g id=\"" ++ kind ++ codes "-" ++ name ++ codes "\" class=\"" ++ kind ++ codes " " ++ link_word facts.state ++ codes " " ++ tone_word facts.tone ++ codes "\" "

-- the attribute that names a link
unfoldable pub link_attribute : LinkPlan → List ℕ
link_attribute link = codes "data-link=\"" ++ link.name ++ codes "\" "

-- the attribute that names an end of a link
unfoldable pub end_attribute : List ℕ → Plan → End → List ℕ
end_attribute key plan e = codes "data-" ++ key ++ codes "=\"" ++ bridge_name plan e.bridge ++ codes ":" ++ decimal e.port ++ codes "\" "

-- the attribute that has the state of a link, and the end of the tag
unfoldable pub state_attribute : LinkState → List ℕ
state_attribute state = codes "data-state=\"" ++ link_word state ++ codes "\">"

-- the attributes that describe a link: its name, its ends and its state
abbrev pub link_data : Plan → LinkPlan → LinkState → List ℕ
link_data plan link state =
    link_attribute link ++ end_attribute (codes "a") plan link.a ++ end_attribute (codes "b") plan link.b ++ state_attribute state

-- the opening tag of a group of a link
abbrev pub link_group : List ℕ → Plan → LinkPlan → LinkFacts → List ℕ
link_group kind plan link facts = link_class kind link.name facts ++ link_data plan link facts.state

-- a link's line, with its title
abbrev pub known_link : Plan → LinkPlan → LinkMark → List ℕ
known_link plan link mark =
    link_group (codes "link") plan link mark.facts ++ codes "<title>" ++ link_words plan link mark.facts ++ codes "</title><path d=\"" ++ route_text mark.route ++ codes "\"/></g>\n"

-- the line of the link with the mark's number
abbrev pub link_element : Plan → LinkMark → List ℕ
link_element plan mark = unwrap_or (option_map (λ link. known_link plan link mark) (numbered plan.links mark.facts.number)) []

-- the mark of a state: a square with a cross, a ring, or a small dot
abbrev pub mark_of : PortState → List ℕ
mark_of Discarding = codes "m-5-5h10v10h-10zm2 2l6 6m0-6l-6 6"
mark_of Learning = codes "m-5 0a5 5 0 1 0 10 0a5 5 0 1 0-10 0z"
mark_of Forwarding = codes "m-2 0a2 2 0 1 0 4 0a2 2 0 1 0-4 0z"

-- an end that is disabled has a large cross
abbrev pub end_mark : Bool → PortState → List ℕ
end_mark true state = codes "m-7-7l14 14m0-14l-14 14"
end_mark false state = mark_of state

-- the number of the port at an end
abbrev pub number_text : ℕ → Point → List ℕ
number_text port middle = codes "<text x=\"" ++ decimal middle.x ++ codes "\" y=\"" ++ decimal middle.y ++ codes "\">" ++ decimal port ++ codes "</text>"

-- the beginning of an end's mark: its class, and the attributes that describe it
abbrev pub end_data : Plan → End → Bool → PortState → List ℕ
end_data plan e disabled state =
    codes "<path class=\"" ++ end_word disabled state ++ codes "\" data-bridge=\"" ++ bridge_name plan e.bridge ++ codes "\" data-port=\"" ++ decimal e.port
    ++ codes "\" data-state=\"" ++ end_word disabled state ++ codes "\" "

-- the drawing of an end's mark
abbrev pub drawing_text : Bool → PortState → Point → List ℕ
drawing_text disabled state middle = codes "d=\"M" ++ decimal middle.x ++ codes " " ++ decimal middle.y ++ end_mark disabled state ++ codes "\"/>"

-- the number and the mark of an end
abbrev pub end_text : Plan → End → ShownEnd → List ℕ
end_text plan e shown =
    number_text e.port shown.number ++ end_data plan e shown.disabled shown.state ++ drawing_text shown.disabled shown.state shown.landing

-- the plate under a link's name
abbrev pub plate_text : Route → List ℕ
plate_text route =
    codes "<g transform=\"translate(" ++ decimal route.label.x ++ codes " " ++ decimal route.label.y ++ codes ")\"><rect x=\"-" ++ decimal route.label_half
    ++ codes "\" y=\"-7\" width=\"" ++ decimal (route.label_half * 2) ++ codes "\" height=\"14\"/>"

-- the name of a link, and whether the link loses frames
abbrev pub name_text : LinkPlan → List ℕ
name_text link = codes "<text class=\"name\" y=\"4\">" ++ link.name ++ losing_word link ++ codes "</text></g>"

-- the name on its plate, with the lists of services under it or without
abbrev pub label_text : Plan → Bool → LinkPlan → Route → List ℕ
label_text plan lists link route = plate_text route ++ link_lists plan lists link route.lines_half ++ name_text link

-- what is shown of each end of a link
abbrev pub shown_a : LinkMark → ShownEnd
shown_a mark = record { disabled = mark.facts.failed.a; state = mark.facts.a; number = mark.route.a_port; landing = mark.route.a }

abbrev pub shown_b : LinkMark → ShownEnd
shown_b mark = record { disabled = mark.facts.failed.b; state = mark.facts.b; number = mark.route.b_port; landing = mark.route.b }

-- both ends of a link
abbrev pub both_ends : Plan → LinkPlan → LinkMark → List ℕ
both_ends plan link mark = end_text plan link.a (shown_a mark) ++ end_text plan link.b (shown_b mark)

-- the ends of a link, and its name
abbrev pub known_ends : Plan → Bool → LinkPlan → LinkMark → List ℕ
known_ends plan lists link mark =
    link_group (codes "ends") plan link mark.facts ++ both_ends plan link mark ++ label_text plan lists link mark.route ++ codes "</g>\n"

-- the ends and the name of the link with the mark's number
abbrev pub ends_element : Plan → Bool → LinkMark → List ℕ
ends_element plan lists mark = unwrap_or (option_map (λ link. known_ends plan lists link mark) (numbered plan.links mark.facts.number)) []
