-- The texts of the lists of services at links.
use Rattle.std.specs.Prelude.{ℕ, Bool, true, false, not, is_none, nat_le, List, [], ◌∷◌, ◌++◌, ◌-◌, ◌==◌, Some, None, length, take, flat_map, codes, if◌then◌else◌}
use Rattle.std.specs.Fmt.{decimal}
use Rattle.std.specs.declared.option.Option.{Option}
use Rattle.pb_frame.specs.Admission.{same}
use Rattle.pb_lan.specs.declared.plan.Plan.{Plan}
use Rattle.pb_lan.specs.declared.plan.End.{End}
use Rattle.pb_lan.specs.declared.plan.LinkPlan.{LinkPlan}
use Rattle.pb_names.specs.Names.{bridge_name, service_name}

-- two ports carry the same services: all, or those with the same numbers
abbrev pub same_lists : Option (List ℕ) → Option (List ℕ) → Bool
same_lists None None = true
same_lists None (Some b) = false
same_lists (Some a) None = false
same_lists (Some a) (Some b) = same a b

-- how many names are shown of a list of so many: all of at most three, else the first two
abbrev pub shown_names : ℕ → ℕ
shown_names count = if nat_le count 3 then count else 2

-- a name that follows another one
abbrev pub next_name : Plan → ℕ → List ℕ
next_name plan number = codes ", " ++ service_name plan number

-- the names of the services with these numbers, with commas between
abbrev pub joined_names : Plan → List ℕ → List ℕ
joined_names plan [] = []
joined_names plan (number ∷ numbers) = service_name plan number ++ flat_map (next_name plan) numbers

-- how many names of a list of so many are not shown, if any
abbrev pub rest_words : ℕ → List ℕ
rest_words count =
    if shown_names count == count then [] else codes " and " ++ decimal (count - shown_names count) ++ codes " more"

-- the names of a list that are shown, and how many are not
abbrev pub listed_words : Plan → List ℕ → List ℕ
listed_words plan numbers = joined_names plan (take (shown_names (length numbers)) numbers) ++ rest_words (length numbers)

-- the services of a port
abbrev pub services_words : Plan → Option (List ℕ) → List ℕ
services_words plan None = codes "all services"
services_words plan (Some numbers) = if length numbers == 0 then codes "no service" else listed_words plan numbers

-- the services of an end of a link, after the name of its bridge
abbrev pub end_services : Plan → End → List ℕ
end_services plan e = bridge_name plan e.bridge ++ codes ": " ++ services_words plan e.services

-- a line between two texts
abbrev pub line_text : List ℕ → List ℕ → List ℕ → List ℕ
line_text before after line = before ++ line ++ after

-- the line of a link whose two ends have the same list; all services have no line
abbrev pub same_line : List ℕ → List ℕ → Plan → Option (List ℕ) → List ℕ
same_line before after plan services = if is_none services then [] else line_text before after (services_words plan services)

-- the lines of a link's lists, each between two texts: one if both ends have the same list, else one for each end
abbrev pub list_lines : List ℕ → List ℕ → Plan → LinkPlan → List ℕ
list_lines before after plan link =
    if same_lists link.a.services link.b.services then same_line before after plan link.a.services
    else line_text before after (end_services plan link.a) ++ line_text before after (end_services plan link.b)

-- how many lines these are
abbrev pub line_count : LinkPlan → ℕ
line_count link =
    if not (same_lists link.a.services link.b.services) then 2 else if is_none link.a.services then 0 else 1
