-- The depth of a document. JSON is read back if it nests at most 127 deep.
use Rattle.std.proofs.Common.{ℕ, ◌≤◌, List, [], ◌∷◌, ◌++◌, map, length, ◌==◌, Bool, true, false, if◌then◌else◌}
use Rattle.std.proofs.Common.{Option, Some, None}
use Rattle.std.proofs.Common.{unwrap_or, Vec, Global, Bor, Ordering, Less, Equal, Greater, nat_cmp, arith}
use Rattle.std.specs.Cmp.Lexicographic.{slice_cmp}
use Rattle.std.specs.Ordering.{match_ordering}
use Rattle.serde_json.specs.Data.{Data, null, object, string, number, unsigned, Members, no_members, member, put, depth}
use Rattle.serde_json.specs.Data.{items_depth, members_depth}
use Rattle.serde_json.specs.View.{items_of}
use Rattle.pb_export.specs.Documents.{said_data, list_data, words_data, arrays_data, field_data, put_some}
use Rattle.pb_export.specs.Documents.{with_fields, is_at}
use Rattle.pb_export.specs.Documents.{is_in, is_bare, row_data, first_data, inner_items, with_inner, item_data}
use Rattle.pb_export.specs.Documents.{objects_of}
use Rattle.pb_export.specs.Documents.{values_of, some_list, first_item, list_entry, with_lists, with_top}
use Rattle.pb_export.specs.Documents.{document_of}
use Rattle.pb_export.specs.declared.templates.Said.{Said}
use Rattle.pb_export.specs.declared.templates.Said.TheVariants as said
use Rattle.pb_export.specs.declared.templates.ListShape.{ListShape}
use Rattle.pb_export.specs.declared.templates.ListShape.TheVariants.{Objects, Values, Leftovers, Single}
use Rattle.pb_export.specs.declared.templates.ListForm.{ListForm}
use Rattle.pb_export.specs.declared.templates.Form.{Form}
use Rattle.pb_export.specs.declared.rows.Field.{Field}
use Rattle.pb_export.specs.declared.rows.Field.TheVariants.{Text, Number, Depth, Words, Numbers, Groups, Chosen}
use Rattle.pb_export.specs.declared.rows.Filled.{Filled}
use Rattle.pb_export.specs.declared.rows.Row.{Row}

-- no value is deeper than n
AreShallow : ℕ → List Data → Type 0
AreShallow n [] = Unit {0}
AreShallow n (d ∷ ds) = (depth d ≤ n) × AreShallow n ds

IsShallow : ℕ → Option Data → Type 0
IsShallow n None = Unit {0}
IsShallow n (Some d) = depth d ≤ n

items_depth-of : (n : ℕ) (ds : List Data) → AreShallow n ds → items_depth (items_of ds) ≤ n
unfolding AreShallow
items_depth-of n [] h = omega arith
items_depth-of n (d ∷ ds) h = let rest = items_depth-of n ds h.1 in let first = h.0 in omega arith

shallow-append : (n : ℕ) (xs ys : List Data) → AreShallow n xs → AreShallow n ys → AreShallow n (xs ++ ys)
unfolding AreShallow
shallow-append n [] ys h k = k
shallow-append n (x ∷ xs) ys h k = (h.0, shallow-append n xs ys h.1 k)

shallow-if : (n : ℕ) (b : Bool) (xs ys : List Data) → AreShallow n xs → AreShallow n ys
    → AreShallow n (if b then xs else ys)
shallow-if n true xs ys h k = h
shallow-if n false xs ys h k = k

shallow-one : (n : ℕ) (d : Data) → depth d ≤ n → AreShallow n (d ∷ [])
unfolding AreShallow
shallow-one n d h = (h, tt)

shallow-none : (n : ℕ) → AreShallow n []
unfolding AreShallow
shallow-none n = tt

-- the values of slots
shallow-words : (words : List (Bor (List ℕ))) → AreShallow 0 (map (λ w. string w.now) words)
unfolding AreShallow
shallow-words [] = tt
shallow-words (w ∷ words) = (omega arith, shallow-words words)

shallow-numbers : (numbers : List ℕ) → AreShallow 0 (map (λ n. number (unsigned n)) numbers)
unfolding AreShallow
shallow-numbers [] = tt
shallow-numbers (n ∷ numbers) = (omega arith, shallow-numbers numbers)

depth-words : (words : List (Bor (List ℕ))) → depth (words_data words) ≤ 1
depth-words words = let inside = items_depth-of 0 (map (λ w. string w.now) words) (shallow-words words) in omega arith

shallow-groups : (groups : List (Vec (Bor (List ℕ)) Global)) → AreShallow 1 (map (λ g. words_data g.items) groups)
unfolding AreShallow
shallow-groups [] = tt
shallow-groups (g ∷ groups) = (depth-words g.items, shallow-groups groups)

depth-arrays : (groups : List (Vec (Bor (List ℕ)) Global)) (last : List (Bor (List ℕ)))
    → depth (arrays_data groups last) ≤ 2
depth-arrays groups last =
    let inside = items_depth-of 1 (map (λ g. words_data g.items) groups ++ words_data last ∷ [])
    (shallow-append 1 (map (λ g. words_data g.items) groups) (words_data last ∷ []) (shallow-groups groups)
    (shallow-one 1 (words_data last) (depth-words last))) in
    omega arith

-- an array in place of which there may be an empty one
depth-unless : (b c : Bool) (d : Data) → depth d ≤ 2 → depth (if b then (if c then list_data [] else d) else d) ≤ 2
depth-unless true true d x = omega arith
depth-unless true false d x = x
depth-unless false c d x = x

shallow-said : (says : Said) → IsShallow 2 (said_data says)
unfolding IsShallow
shallow-said (said.Word word) = omega arith
shallow-said said.Yes = omega arith
shallow-said said.No = omega arith
shallow-said said.Nothing = tt

shallow-field : (field : Field) → IsShallow 2 (field_data field)
unfolding IsShallow
shallow-field (Text t) = omega arith
shallow-field (Number n) = omega arith
shallow-field (Depth n) = omega arith
shallow-field (Words v) = let inside = depth-words v.items in omega arith
shallow-field (Numbers v) = let inside = items_depth-of 0 (map (λ n. number (unsigned n)) v.items)
    (shallow-numbers v.items) in omega arith
shallow-field (Groups v last) =
    let inside = depth-unless (length v.items == 0) (length last.items == 0) (arrays_data v.items last.items)
    (depth-arrays v.items last.items) in
    omega (arith, inside)
shallow-field (Chosen choice) = shallow-said choice.says

-- members
members_depth-match : (n : ℕ) (o : Ordering) (a b c : Members) → members_depth a ≤ n → members_depth b ≤ n
    → members_depth c ≤ n → members_depth (match_ordering o a b c) ≤ n
members_depth-match n Less a b c x y z = x
members_depth-match n Equal a b c x y z = y
members_depth-match n Greater a b c x y z = z

members_depth-put : (n : ℕ) (k : List ℕ) (d : Data) (ms : Members) → depth d ≤ n → members_depth ms ≤ n
    → members_depth (put k d ms) ≤ n
members_depth-put n k d no_members x y = omega arith
members_depth-put n k d (member l e ms) x y =
    let rest = members_depth-put n k d ms x (omega arith) in
    members_depth-match n (slice_cmp nat_cmp k l) (member k d (member l e ms)) (member l d ms)
    (member l e (put k d ms)) (omega arith) (omega arith) (omega arith)

members_depth-some : (n : ℕ) (k : List ℕ) (o : Option Data) (ms : Members) → IsShallow n o → members_depth ms ≤ n
    → members_depth (put_some k o ms) ≤ n
unfolding IsShallow
members_depth-some n k None ms h m = m
members_depth-some n k (Some d) ms h m = members_depth-put n k d ms h m

members_depth-fields : (fields : List Filled) (ms : Members) → members_depth ms ≤ 2
    → members_depth (with_fields fields ms) ≤ 2
members_depth-fields [] ms m = m
members_depth-fields (f ∷ fields) ms m =
    members_depth-fields fields (put_some f.slot.key.now (field_data f.field) ms)
    (members_depth-some 2 f.slot.key.now (field_data f.field) ms (shallow-field f.field) m)

-- rows and lists
depth-or : (o : Option Data) → IsShallow 2 o → depth (unwrap_or o null) ≤ 2
unfolding IsShallow
depth-or None h = omega arith
depth-or (Some d) h = h

depth-first : (fields : List Filled) → depth (first_data fields) ≤ 2
depth-first [] = omega arith
depth-first (f ∷ fields) = depth-or (field_data f.field) (shallow-field f.field)

depth-if : (n : ℕ) (b : Bool) (d e : Data) → depth d ≤ n → depth e ≤ n → depth (if b then d else e) ≤ n
depth-if n true d e x y = x
depth-if n false d e x y = y

depth-row : (row : Row) → depth (row_data row) ≤ 3
depth-row row =
    let plain = depth-first row.fields.items in
    let inside = members_depth-fields row.fields.items no_members (omega arith) in
    depth-if 3 (is_bare row.fields.items) (first_data row.fields.items)
    (object (with_fields row.fields.items no_members)) (omega arith) (omega arith)

shallow-inner : (key : List ℕ) (keys : List (Bor (List ℕ))) (rows : List Row) → AreShallow 3 (inner_items key keys rows)
shallow-inner key keys [] = shallow-none 3
shallow-inner key keys (row ∷ rows) =
    shallow-if 3 (is_in keys row) ((if is_at key row then row_data row ∷ [] else []) ++ inner_items key keys rows) []
    (shallow-append 3 (if is_at key row then row_data row ∷ [] else []) (inner_items key keys rows)
    (shallow-if 3 (is_at key row) (row_data row ∷ []) [] (shallow-one 3 (row_data row) (depth-row row))
    (shallow-none 3)) (shallow-inner key keys rows))
    (shallow-none 3)

members_depth-inner : (more keys : List (Bor (List ℕ))) (rows : List Row) (ms : Members) → members_depth ms ≤ 4
    → members_depth (with_inner more keys rows ms) ≤ 4
members_depth-inner [] keys rows ms m = m
members_depth-inner (key ∷ more) keys rows ms m =
    let inside = items_depth-of 3 (inner_items key.now keys rows) (shallow-inner key.now keys rows) in
    members_depth-inner more keys rows (put key.now (list_data (inner_items key.now keys rows)) ms)
    (members_depth-put 4 key.now (list_data (inner_items key.now keys rows)) ms (omega arith) m)

depth-item : (list : ListForm) (row : Row) (later : List Row) → depth (item_data list row later) ≤ 5
depth-item list row later =
    let own = members_depth-fields row.fields.items no_members (omega arith) in
    let inside = members_depth-inner list.inner.now list.inner.now later (with_fields row.fields.items no_members)
    (omega arith) in
    omega arith

shallow-objects : (list : ListForm) (rows : List Row) → AreShallow 5 (objects_of list rows)
shallow-objects list [] = shallow-none 5
shallow-objects list (row ∷ rows) =
    shallow-append 5 (if is_at list.key.now row then item_data list row rows ∷ [] else []) (objects_of list rows)
    (shallow-if 5 (is_at list.key.now row) (item_data list row rows ∷ []) []
    (shallow-one 5 (item_data list row rows) (depth-item list row rows)) (shallow-none 5))
    (shallow-objects list rows)

shallow-values : (key : List ℕ) (rows : List Row) → AreShallow 2 (values_of key rows)
shallow-values key [] = shallow-none 2
shallow-values key (row ∷ rows) =
    shallow-append 2 (if is_at key row then first_data row.fields.items ∷ [] else []) (values_of key rows)
    (shallow-if 2 (is_at key row) (first_data row.fields.items ∷ []) []
    (shallow-one 2 (first_data row.fields.items) (depth-first row.fields.items)) (shallow-none 2))
    (shallow-values key rows)

shallow-some : (ds : List Data) → AreShallow 2 ds → IsShallow 6 (some_list ds)
unfolding IsShallow
shallow-some [] h = tt
shallow-some (d ∷ ds) h = let inside = items_depth-of 2 (d ∷ ds) h in omega arith

shallow-first : (ds : List Data) → AreShallow 5 ds → IsShallow 6 (first_item ds)
unfolding AreShallow IsShallow
shallow-first [] h = tt
shallow-first (d ∷ ds) h = let first = h.0 in omega arith

shallow-entry : (shape : ListShape) (list : ListForm) (rows : List Row) → IsShallow 6 (list_entry shape list rows)
unfolding IsShallow
shallow-entry Objects list rows = let inside = items_depth-of 5 (objects_of list rows) (shallow-objects list rows)
    in omega arith
shallow-entry Values list rows = let inside = items_depth-of 2 (values_of list.key.now rows)
    (shallow-values list.key.now rows) in omega arith
shallow-entry Leftovers list rows = shallow-some (values_of list.key.now rows) (shallow-values list.key.now rows)
shallow-entry Single list rows = shallow-first (objects_of list rows) (shallow-objects list rows)

members_depth-lists : (lists : List ListForm) (rows : List Row) (ms : Members) → members_depth ms ≤ 6
    → members_depth (with_lists lists rows ms) ≤ 6
members_depth-lists [] rows ms m = m
members_depth-lists (list ∷ lists) rows ms m =
    members_depth-lists lists rows (put_some list.key.now (list_entry list.shape list rows) ms)
    (members_depth-some 6 list.key.now (list_entry list.shape list rows) ms (shallow-entry list.shape list rows) m)

members_depth-if : (b : Bool) (xs ys : Members) → members_depth xs ≤ 2 → members_depth ys ≤ 2
    → members_depth (if b then xs else ys) ≤ 2
members_depth-if true xs ys h k = h
members_depth-if false xs ys h k = k

members_depth-top : (rows : List Row) (ms : Members) → members_depth ms ≤ 2 → members_depth (with_top rows ms) ≤ 2
members_depth-top [] ms m = m
members_depth-top (row ∷ rows) ms m =
    members_depth-top rows (if is_at [] row then with_fields row.fields.items ms else ms)
    (members_depth-if (is_at [] row) (with_fields row.fields.items ms) ms (members_depth-fields row.fields.items ms m)
    m)

-- a document nests at most seven deep, for the contract of json_of
pub depth-document : (form : Form) (rows : List Row) → depth (document_of form rows) ≤ 7
depth-document form rows =
    let top = members_depth-top rows no_members (omega arith) in
    let inside = members_depth-lists form.lists.now rows (with_top rows no_members) (omega arith) in
    omega arith
