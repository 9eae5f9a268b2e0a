-- The lists of services at links in an SVG picture.
use Rattle.std.specs.Prelude.{ℕ, Bool, true, false, List, [], ◌++◌, ◌*◌, ◌==◌, codes, if◌then◌else◌}
use Rattle.std.specs.Fmt.{decimal}
use Rattle.pb_lan.specs.declared.plan.Plan.{Plan}
use Rattle.pb_lan.specs.declared.plan.LinkPlan.{LinkPlan}
use Rattle.pb_cmd_draw.specs.Lists.{line_count, list_lines}

-- the plate under so many lines
abbrev pub list_plate : ℕ → ℕ → List ℕ
list_plate half lines =
    codes "<rect x=\"-" ++ decimal half ++ codes "\" y=\"7\" width=\"" ++ decimal (half * 2)
    ++ codes "\" height=\"" ++ decimal (lines * 13) ++ codes "\"/>"

-- the lines
abbrev pub list_texts : Plan → LinkPlan → List ℕ
list_texts plan link =
    codes "<text class=\"list\" y=\"4\">" ++ list_lines (codes "<tspan x=\"0\" dy=\"13\">") (codes "</tspan>") plan link ++ codes "</text>"

-- the lines on their plate, or nothing if both ends have all services
abbrev pub known_lists : Plan → LinkPlan → ℕ → List ℕ
known_lists plan link half =
    if line_count link == 0 then [] else list_plate half (line_count link) ++ list_texts plan link

-- the lists of a link under its name, if the picture shows them
abbrev pub link_lists : Plan → Bool → LinkPlan → ℕ → List ℕ
link_lists plan false link half = []
link_lists plan true link half = known_lists plan link half
