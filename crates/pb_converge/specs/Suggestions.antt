-- The name that a wrong name probably means.
use Rattle.std.specs.Prelude.{ℕ, List, ◌++◌, Some, None, Option, map, length, nat_eq, nat_lt}
use Rattle.std.specs.Str.{chars}
use Rattle.strsim.specs.Edits.{levenshtein_row}
use Rattle.pb_frame.specs.Lists.{first}
use Rattle.pb_lan.specs.Ports.{all_ends}
use Rattle.pb_lan.specs.declared.plan.Plan.{Plan}
use Rattle.pb_converge.specs.Falls.{end_name}

-- the characters to insert, remove or replace until one text is the other (the distance of Levenshtein)
abbrev pub edits : List ℕ → List ℕ → ℕ
edits from to = levenshtein_row nat_eq (chars from) (chars to) (length (chars to))

-- the names of links, of bridges, and of ends of links
abbrev pub all_names : Plan → List (List ℕ)
all_names plan = map (λ l. l.name) plan.links ++ (map (λ b. b.name) plan.bridges ++ map (end_name plan) (all_ends plan))

-- the first name that fewer than so many edits lead to
abbrev pub first_within : ℕ → List ℕ → List (List ℕ) → Option (List ℕ)
first_within limit text names = first (λ name. nat_lt (edits text name) limit) names

-- the first of these, or else the second
abbrev pub this_or : Option (List ℕ) → Option (List ℕ) → Option (List ℕ)
this_or (Some name) other = Some name
this_or None other = other

-- the first name that one edit leads to, or else two edits
abbrev pub suggestion : Plan → List ℕ → Option (List ℕ)
suggestion plan text = this_or (first_within 2 text (all_names plan)) (first_within 3 text (all_names plan))
