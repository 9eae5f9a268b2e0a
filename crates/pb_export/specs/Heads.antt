-- The members that each document begins with.
use Rattle.std.specs.Prelude.{List, ℕ, [], ◌∷◌, ◌++◌, Option, Some, None, codes, ◌≡◌}
use denote.Ref.{Bor}
use Rattle.json.specs.Print.{quoted}
use Rattle.serde_json.specs.Data.{object, string, Members, member}
use Rattle.serde_json.specs.Written.{IsInOrder}
use Rattle.pb_export.specs.Documents.{IsJson}
use Rattle.pb_export.specs.declared.heads.Head.{Head}

-- a member with a text, on a line of its own
abbrev pub member_line : List ℕ → List ℕ → List ℕ
member_line key text = codes "  \"" ++ key ++ codes "\": " ++ quoted text ++ codes ",\n"

-- the line of the plan file before the change, if there is one
abbrev pub old_line : Option (Bor (List ℕ)) → List ℕ
old_line None = []
old_line (Some path) = member_line (codes "old_plan") path.now

-- the text that a document begins with
abbrev pub head_text : Head → List ℕ
head_text head =
    codes "{\n" ++ member_line (codes "command") head.command.now ++ member_line (codes "version") head.version.now
    ++ member_line (codes "plan") head.plan.now ++ old_line head.old_plan

-- members after that of the plan file before the change, if there is one
abbrev pub with_old : Option (Bor (List ℕ)) → Members → Members
with_old None members = members
with_old (Some path) members = member (codes "old_plan") (string path.now) members

-- members after those of the head
abbrev pub with_head : Head → Members → Members
with_head head members =
    member (codes "command") (string head.command.now) (member (codes "version") (string head.version.now)
    (member (codes "plan") (string head.plan.now) (with_old head.old_plan members)))

-- the text has the members of the head first, and then those of a report, which have the rest of its text
pub record IsHeaded (head : Head) (members : Members) (text : List ℕ) : Type 0 where
  pub in_order : IsInOrder text (object (with_head head members))
  pub rest : List ℕ
  pub text_is : text ≡ head_text head ++ rest
  pub report : IsJson (object members) (codes "{\n" ++ rest)
