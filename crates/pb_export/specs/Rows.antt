-- The rows of a report, and the text that they give back.
use Rattle.std.specs.Prelude.{Vec, ◌≡◌, ◌⊎◌, ℕ, List, [], ◌∷◌, ◌++◌}
use Rattle.std.specs.Prelude.{map, flat_map, codes, Contains, All, ⊤}
use Rattle.std.specs.Fmt.{decimal}
use Rattle.std.specs.declared.alloc.Global.{Global}
use denote.Ref.{Bor}
use Rattle.pb_export.specs.Fitting.{spaces, Lacks, FitsTemplate}
use Rattle.pb_export.specs.declared.templates.Kind.{Kind}
use Rattle.pb_export.specs.declared.templates.Kind.TheVariants as kind
use Rattle.pb_export.specs.declared.templates.Choice.{Choice}
use Rattle.pb_export.specs.declared.templates.Said.TheVariants.{Nothing}
use Rattle.pb_export.specs.declared.templates.Slot.{Slot}
use Rattle.pb_export.specs.declared.templates.Template.{Template}
use Rattle.pb_export.specs.declared.rows.Field.{Field}
use Rattle.pb_export.specs.declared.rows.Field.TheVariants.{Text, Number, Depth, Words, Numbers, Groups, Chosen}
use Rattle.pb_export.specs.declared.rows.Filled.{Filled}
use Rattle.pb_export.specs.declared.rows.Row.{Row}

-- words, each after a space
abbrev pub words_text : List (Bor (List ℕ)) → List ℕ
words_text words = flat_map (λ w. 32 ∷ w.now) words

-- numbers, each after a space
abbrev pub numbers_text : List ℕ → List ℕ
numbers_text numbers = flat_map (λ n. 32 ∷ decimal n) numbers

-- groups of words, each followed by a bar
abbrev pub groups_text : List (Vec (Bor (List ℕ)) Global) → List ℕ
groups_text groups = flat_map (λ g. words_text g.items ++ codes " |") groups

-- the text of a slot's value
abbrev pub field_text : Field → List ℕ
field_text (Text t) = t.now
field_text (Number n) = decimal n
field_text (Depth n) = spaces n
field_text (Words v) = words_text v.items
field_text (Numbers v) = numbers_text v.items
field_text (Groups v last) = groups_text v.items ++ words_text last.items
field_text (Chosen choice) = choice.text.now

-- the text of a slot, with the fixed text after it
abbrev pub filled_text : Filled → List ℕ
filled_text f = field_text f.field ++ f.slot.until.now

-- the text of several slots
abbrev pub fields_text : List Filled → List ℕ
fields_text fields = flat_map filled_text fields

-- the line that a row gives back
abbrev pub row_text : Row → List ℕ
row_text row = row.template.lead.now ++ fields_text row.fields.items

-- the report that several rows give back
abbrev pub report_text : List Row → List ℕ
report_text rows = flat_map (λ row. row_text row ++ 10 ∷ []) rows

-- an s or nothing, without a meaning
pub record IsEnding (choice : Choice) : Type 0 where
  pub says : choice.says ≡ Nothing
  pub text : (choice.text.now ≡ codes "s") ⊎ (choice.text.now ≡ [])

-- a slot of this kind may hold the value
abbrev pub Fits : Kind → Field → Type 0
Fits kind.Text (Text t) = ⊤
Fits kind.Number (Number n) = ⊤
Fits kind.Depth (Depth n) = ⊤
Fits kind.Words (Words v) = ⊤
Fits kind.Numbers (Numbers v) = ⊤
Fits kind.Groups (Groups v last) = ⊤
Fits kind.Plural (Chosen choice) = IsEnding choice
Fits (kind.OneOf choices) (Chosen choice) = Contains choices.now choice
Fits _ _ = ⊥

-- the slot holds a value of its kind
pub record IsFilled (slot : Slot) (f : Filled) : Type 0 where
  pub slot_is : f.slot ≡ slot
  pub fits : Fits slot.kind f.field

-- each slot of a template holds a value of its kind
pub record AreFilled (slots : List Slot) (fields : List Filled) : Type 0 where
  pub slots_are : map (λ f. f.slot) fields ≡ slots
  pub fit : All (λ f. Fits f.slot.kind f.field) fields

-- the row is the line, read by the template
pub record IsRow (template : Template) (line : List ℕ) (row : Row) : Type 0 where
  pub template_is : row.template ≡ template
  pub filled : AreFilled template.slots.now row.fields.items
  pub text_is : line ≡ row_text row

-- the template is the first of these that the line fits
pub record IsFirstOf (templates : List Template) (template : Template) (line : List ℕ) : Type 0 where
  pub earlier : List Template
  pub later : List Template
  pub are : templates ≡ earlier ++ template ∷ later
  pub none : All (λ t. ¬ (FitsTemplate t line)) earlier
  pub fits : FitsTemplate template line

-- the row is one line, has the first of these templates that the line fits, and each slot holds a value of its kind
pub record IsRowOf (templates : List Template) (row : Row) : Type 0 where
  pub template_is : Contains templates row.template
  pub first : IsFirstOf templates row.template (row_text row)
  pub line : Lacks (10 ∷ []) (row_text row)
  pub filled : AreFilled row.template.slots.now row.fields.items

-- the rows are the lines of a text, each read by the first of these templates that it fits
pub record AreRows (templates : List Template) (text : List ℕ) (rows : List Row) : Type 0 where
  pub are : All (IsRowOf templates) rows
  pub text_is : text ≡ report_text rows
