-- The document of a report's rows.
use Rattle.std.specs.Prelude.{Vec, ◌≡◌, ℕ, Bool, true, false, List, [], ◌∷◌, ◌++◌, Option, Some, None, map, length, ◌==◌, unwrap_or, if◌then◌else◌}
use Rattle.std.specs.List.{list_any}
use Rattle.std.specs.Str.{bytes_eq}
use Rattle.std.specs.declared.alloc.Global.{Global}
use denote.Ref.{Bor}
use Rattle.serde_json.specs.Data.{Data, null, boolean, number, string, array, object, unsigned, Members, no_members, put}
use Rattle.serde_json.specs.View.{items_of}
use Rattle.serde_json.specs.Read.{read}
use Rattle.serde_json.specs.Written.{IsInOrder}
use Rattle.pb_export.specs.declared.templates.Said.{Said}
use Rattle.pb_export.specs.declared.templates.Said.TheVariants as said
use Rattle.pb_export.specs.declared.templates.ListShape.{ListShape}
use Rattle.pb_export.specs.declared.templates.ListShape.TheVariants.{Objects, Values, Leftovers, Single}
use Rattle.pb_export.specs.declared.templates.ListForm.{ListForm}
use Rattle.pb_export.specs.declared.templates.Form.{Form}
use Rattle.pb_export.specs.declared.rows.Field.{Field}
use Rattle.pb_export.specs.declared.rows.Field.TheVariants.{Text, Number, Depth, Words, Numbers, Groups, Chosen}
use Rattle.pb_export.specs.declared.rows.Filled.{Filled}
use Rattle.pb_export.specs.declared.rows.Row.{Row}

-- the meaning of a fixed text
abbrev pub said_data : Said → Option Data
said_data (said.Word word) = Some (string word.now)
said_data said.Yes = Some (boolean true)
said_data said.No = Some (boolean false)
said_data said.Nothing = None

-- an array of values
abbrev pub list_data : List Data → Data
list_data items = array (items_of items)

-- an array of words
abbrev pub words_data : List (Bor (List ℕ)) → Data
words_data words = list_data (map (λ w. string w.now) words)

-- an array of numbers
abbrev pub numbers_data : List ℕ → Data
numbers_data numbers = list_data (map (λ n. number (unsigned n)) numbers)

-- an array of arrays of words
abbrev pub arrays_data : List (Vec (Bor (List ℕ)) Global) → List (Bor (List ℕ)) → Data
arrays_data groups last = list_data (map (λ g. words_data g.items) groups ++ words_data last ∷ [])

-- an array of groups of words, which is empty if there are no words
abbrev pub groups_data : List (Vec (Bor (List ℕ)) Global) → List (Bor (List ℕ)) → Data
groups_data groups last =
    if length groups == 0 then (if length last == 0 then list_data [] else arrays_data groups last) else arrays_data groups last

-- the value of a slot
abbrev pub field_data : Field → Option Data
field_data (Text t) = Some (string t.now)
field_data (Number n) = Some (number (unsigned n))
field_data (Depth n) = Some (number (unsigned n))
field_data (Words v) = Some (words_data v.items)
field_data (Numbers v) = Some (numbers_data v.items)
field_data (Groups v last) = Some (groups_data v.items last.items)
field_data (Chosen choice) = said_data choice.says

-- a member, if there is a value
abbrev pub put_some : List ℕ → Option Data → Members → Members
put_some key None members = members
put_some key (Some d) members = put key d members

-- the members that slots give, each put after those before it
abbrev pub with_fields : List Filled → Members → Members
with_fields [] members = members
with_fields (f ∷ fields) members = with_fields fields (put_some f.slot.key.now (field_data f.field) members)

-- the row belongs to the list of this key
abbrev pub is_at : List ℕ → Row → Bool
is_at key row = bytes_eq row.template.home.now key

-- the row belongs to one of these lists
abbrev pub is_in : List (Bor (List ℕ)) → Row → Bool
is_in keys row = list_any (λ key. is_at key.now row) keys

-- the value of a row's first slot
abbrev pub first_data : List Filled → Data
first_data [] = null
first_data (f ∷ fields) = unwrap_or (field_data f.field) null

-- the first slot has no key
abbrev pub is_bare : List Filled → Bool
is_bare [] = false
is_bare (f ∷ fields) = length f.slot.key.now == 0

-- a row in a list inside an object: an object too, or its first value if that has no key
abbrev pub row_data : Row → Data
row_data row =
    if is_bare row.fields.items then first_data row.fields.items else object (with_fields row.fields.items no_members)

-- a list inside an object, from the rows after the object's own, up to the first that belongs to none of its lists
abbrev pub inner_items : List ℕ → List (Bor (List ℕ)) → List Row → List Data
inner_items key keys [] = []
inner_items key keys (row ∷ rows) = if is_in keys row then (if is_at key row then row_data row ∷ [] else []) ++ inner_items key keys rows else []

-- the members of an object with those of its lists
abbrev pub with_inner : List (Bor (List ℕ)) → List (Bor (List ℕ)) → List Row → Members → Members
with_inner [] keys rows members = members
with_inner (key ∷ more) keys rows members = with_inner more keys rows (put key.now (list_data (inner_items key.now keys rows)) members)

-- a row of a list as an object, with the lists inside it
abbrev pub item_data : ListForm → Row → List Row → Data
item_data list row later = object (with_inner list.inner.now list.inner.now later (with_fields row.fields.items no_members))

-- an object for each row of a list
abbrev pub objects_of : ListForm → List Row → List Data
objects_of list [] = []
objects_of list (row ∷ rows) = (if is_at list.key.now row then item_data list row rows ∷ [] else []) ++ objects_of list rows

-- the value of the first slot of each row of a list
abbrev pub values_of : List ℕ → List Row → List Data
values_of key [] = []
values_of key (row ∷ rows) = (if is_at key row then first_data row.fields.items ∷ [] else []) ++ values_of key rows

-- an array, if there is an item
abbrev pub some_list : List Data → Option Data
some_list [] = None
some_list (d ∷ ds) = Some (list_data (d ∷ ds))

-- the first item, if there is one
abbrev pub first_item : List Data → Option Data
first_item [] = None
first_item (d ∷ ds) = Some d

-- the document's value at the key of a list
abbrev pub list_entry : ListShape → ListForm → List Row → Option Data
list_entry Objects list rows = Some (list_data (objects_of list rows))
list_entry Values list rows = Some (list_data (values_of list.key.now rows))
list_entry Leftovers list rows = some_list (values_of list.key.now rows)
list_entry Single list rows = first_item (objects_of list rows)

-- the members of a document with those of its lists
abbrev pub with_lists : List ListForm → List Row → Members → Members
with_lists [] rows members = members
with_lists (list ∷ lists) rows members = with_lists lists rows (put_some list.key.now (list_entry list.shape list rows) members)

-- the members that rows of no list give
abbrev pub with_top : List Row → Members → Members
with_top [] members = members
with_top (row ∷ rows) members = with_top rows (if is_at [] row then with_fields row.fields.items members else members)

-- the members of a report's document, and the document
abbrev pub report_members : Form → List Row → Members
report_members form rows = with_lists form.lists.now rows (with_top rows no_members)

abbrev pub document_of : Form → List Row → Data
document_of form rows = object (report_members form rows)

-- the text has each item and member of the document once and in order, and is read back as the document
pub record IsJson (document : Data) (text : List ℕ) : Type 0 where
  pub in_order : IsInOrder text document
  pub reads_back : read text ≡ Some document
