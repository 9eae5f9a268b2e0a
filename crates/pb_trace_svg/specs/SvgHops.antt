-- Hops in an SVG picture.
use Rattle.std.specs.Prelude.{ℕ, Bool, List, [], ◌++◌, ◌*◌, ◌%◌, ◌==◌, unwrap_or, codes, if◌then◌else◌}
use Rattle.std.specs.Fmt.{decimal}
use Rattle.std.specs.Option.{option_map}
use Rattle.pb_cmd_draw.specs.SvgLinks.{route_text}
use Rattle.pb_draw_layout.specs.declared.scene.LinkMark.{LinkMark}
use Rattle.pb_draw_layout.specs.declared.scene.Point.{Point}
use Rattle.pb_lan.specs.Numbering.{numbered}
use Rattle.pb_lan.specs.declared.plan.Plan.{Plan}
use Rattle.pb_names.specs.Names.{bridge_name, link_name, port_name}
use Rattle.pb_trace_svg.specs.Words.{far_name, hop_words, kind_word, link_of, tag_words}
use Rattle.pb_trace_svg.specs.declared.hops.Hop.{Hop}
use Rattle.pb_trace_svg.specs.declared.hops.Hop.TheVariants.{Entered, Crossed, Dropped, Refused, Delivered}
use Rattle.pb_trace_svg.specs.declared.hops.Tag.{Tag}
use Rattle.pb_trace_svg.specs.declared.marks.HopMark.{HopMark}

-- the beginning of a hop's group: its identifier, its class and its number
abbrev pub hop_start : ℕ → Hop → List ℕ
hop_start number hop =
    codes "<g id=\"hop-" ++ decimal number ++ codes "\" class=\"hop " ++ kind_word hop ++ codes "\" data-hop=\"" ++ decimal number ++ codes "\" "

-- the attribute that names a customer port
abbrev pub port_data : Plan → ℕ → List ℕ
port_data plan port = codes "data-port=\"" ++ port_name plan port ++ codes "\">"

-- the attributes that name a link, and the bridge to which its lane leads
abbrev pub lane_data : Plan → ℕ → List ℕ
lane_data plan lane = codes "data-link=\"" ++ link_name plan (link_of lane) ++ codes "\" data-to=\"" ++ far_name plan lane ++ codes "\" "

-- the attributes that describe a frame on a link
abbrev pub crossing_data : Plan → ℕ → Tag → List ℕ
crossing_data plan lane tag = lane_data plan lane ++ codes "data-tag=\"" ++ tag_words tag ++ codes "\">"

-- the attributes that name a local port of a bridge
abbrev pub bridge_data : Plan → ℕ → ℕ → List ℕ
bridge_data plan bridge port = codes "data-bridge=\"" ++ bridge_name plan bridge ++ codes "\" data-port=\"" ++ decimal port ++ codes "\">"

-- the attributes that describe a hop
abbrev pub hop_data : Plan → Hop → List ℕ
hop_data plan (Entered port) = port_data plan port
hop_data plan (Crossed lane tag lost) = crossing_data plan lane tag
hop_data plan (Dropped bridge port cause) = bridge_data plan bridge port
hop_data plan (Refused bridge port cause) = bridge_data plan bridge port
hop_data plan (Delivered port gone) = port_data plan port

-- the opening tag of a hop's group
abbrev pub hop_group : Plan → ℕ → Hop → List ℕ
hop_group plan number hop = hop_start number hop ++ hop_data plan hop

-- the end of a line's path, with the arrow at the far end of its lane; a frame that was lost has none
abbrev pub arrow_word : ℕ → Bool → List ℕ
arrow_word lane lost =
    if lost then codes "\"" else if lane % 2 == 1 then codes "\" marker-end=\"url(#hop-ab)\"" else codes "\" marker-start=\"url(#hop-ba)\""

-- the path of the link of a lane
abbrev pub route_part : List LinkMark → ℕ → List ℕ
route_part links lane = unwrap_or (option_map (λ m. route_text m.route) (numbered links (link_of lane))) []

-- the beginning of the line of a frame on a link
abbrev pub way_start : ℕ → Hop → List ℕ
way_start number hop = codes "<path class=\"way " ++ kind_word hop ++ codes "\" data-hop=\"" ++ decimal number ++ codes "\" d=\""

-- the line of the link over which a frame went, with an arrow
abbrev pub crossing_way : List LinkMark → ℕ → ℕ → Tag → Bool → List ℕ
crossing_way links number lane tag lost =
    way_start number (Crossed lane tag lost) ++ route_part links lane ++ arrow_word lane lost ++ codes "/>\n"

-- only a hop over a link has a line
abbrev pub way_of : List LinkMark → ℕ → Hop → List ℕ
way_of links number (Entered port) = []
way_of links number (Crossed lane tag lost) = crossing_way links number lane tag lost
way_of links number (Dropped bridge port cause) = []
way_of links number (Refused bridge port cause) = []
way_of links number (Delivered port gone) = []

-- the line of the hop of a mark
abbrev pub way_element : List LinkMark → HopMark → List ℕ
way_element links mark = way_of links mark.number mark.hop

-- an arrow into or out of the network, or a cross
abbrev pub shape_of : Hop → List ℕ
shape_of (Entered port) = codes "m-5-5l10 5l-10 5z"
shape_of (Crossed lane tag lost) = codes "m-9-9l18 18m0-18l-18 18"
shape_of (Dropped bridge port cause) = codes "m-9-9l18 18m0-18l-18 18"
shape_of (Refused bridge port cause) = codes "m-9-9l18 18m0-18l-18 18"
shape_of (Delivered port gone) = if gone then codes "m-9-9l18 18m0-18l-18 18" else codes "m5-5l-10 5l10 5z"

-- a sign with this drawing at a point
abbrev pub sign_text : List ℕ → Point → List ℕ
sign_text shape middle = codes "<path d=\"M" ++ decimal middle.x ++ codes " " ++ decimal middle.y ++ shape ++ codes "\"/>"

-- the sign of a hop; a hop over a link has none
abbrev pub hop_drawing : Hop → Point → List ℕ
hop_drawing (Crossed lane tag lost) middle = []
hop_drawing (Entered port) middle = sign_text (shape_of (Entered port)) middle
hop_drawing (Dropped bridge port cause) middle = sign_text (shape_of (Dropped bridge port cause)) middle
hop_drawing (Refused bridge port cause) middle = sign_text (shape_of (Refused bridge port cause)) middle
hop_drawing (Delivered port gone) middle = sign_text (shape_of (Delivered port gone)) middle

-- the beginning of a hop's text: its position
abbrev pub label_start : Point → List ℕ
label_start at = codes "<g transform=\"translate(" ++ decimal at.x ++ codes " " ++ decimal at.y ++ codes ")\">"

-- the plate under a text of this half width, and the beginning of the text, which has its middle there
abbrev pub box_text : ℕ → List ℕ
box_text half =
    codes "<rect x=\"-" ++ decimal half ++ codes "\" y=\"-10\" width=\"" ++ decimal (half * 2) ++ codes "\" height=\"13\"/><text text-anchor=\"middle\">"

-- the plate, or none: then the text begins at its position
abbrev pub plate_text : ℕ → List ℕ
plate_text half = if half == 0 then codes "<text>" else box_text half

-- the number of a hop
abbrev pub number_words : ℕ → List ℕ
number_words number = decimal number ++ codes " "

-- the number of a hop and its words
abbrev pub hop_label : Plan → HopMark → List ℕ
hop_label plan mark =
    label_start mark.text ++ plate_text mark.half ++ number_words mark.number ++ hop_words plan mark.hop ++ codes "</text></g></g>\n"

-- the sign and the text of a hop
abbrev pub hop_element : Plan → HopMark → List ℕ
hop_element plan mark = hop_group plan mark.number mark.hop ++ hop_drawing mark.hop mark.sign ++ hop_label plan mark
