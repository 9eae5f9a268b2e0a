-- The lines about what two plans have differently. Parts are matched by kind and name.
use Rattle.std.specs.Prelude.{ℕ, List, [], ◌∷◌, ◌++◌, Option, Some, None, is_some, flat_map, codes, if◌then◌else◌}
use Rattle.std.specs.List.{zip}
use Rattle.pb_frame.specs.Admission.{same}
use Rattle.pb_frame.specs.Lists.{first}
use Rattle.pb_lan.specs.declared.plan.Plan.{Plan}
use Rattle.pb_plan_diff.specs.Parts.{service_names, parts_of}
use Rattle.pb_plan_diff.specs.declared.part.Field.{Field}
use Rattle.pb_plan_diff.specs.declared.part.Part.{Part}

-- the part with this kind and name
abbrev pub titled : List Part → List ℕ → Option Part
titled parts title = first (λ p. same p.title title) parts

-- a field, if its text differs
abbrev pub field_line : List ℕ → (Field × Field) → List ℕ
field_line title f =
    if same f.0.text f.1.text then []
    else title ++ codes ": " ++ f.0.key ++ codes ": " ++ f.0.text ++ codes " -> " ++ f.1.text ++ 10 ∷ []

-- what became of a part: it is removed, or a line for each field that differs
abbrev pub change_lines : Part → Option Part → List ℕ
change_lines old None = old.title ++ codes ": removed" ++ 10 ∷ []
change_lines old (Some new) = flat_map (field_line old.title) (zip old.fields new.fields)

-- a part that is new
abbrev pub added_line : List Part → Part → List ℕ
added_line olds new = if is_some (titled olds new.title) then [] else new.title ++ codes ": added" ++ 10 ∷ []

-- what became of each part, and the new parts
abbrev pub part_lines : List Part → List Part → List ℕ
part_lines olds news = flat_map (λ p. change_lines p (titled news p.title)) olds ++ flat_map (added_line olds) news

-- the differences of two plans
abbrev pub plan_lines : Plan → Plan → List ℕ
plan_lines old new = part_lines (parts_of (service_names old new) old) (parts_of (service_names old new) new)
