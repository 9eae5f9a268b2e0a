-- Lists of values, and the data that they denote.
use Rattle.std.proofs.Common.{◌≡◌, ℕ, ◌+◌, ◌<◌, ◌≤◌, Bool, true, false, zero, suc, List, [], ◌∷◌, ◌++◌, inl, inr}
use Rattle.std.proofs.Common.{length, get_or, drop, Option, Some, None, unwrap_or, arith}
use Rattle.std.proofs.lemmas.Bool.{cases_Bool, false≢true}
use Rattle.std.proofs.lemmas.List.{drop_more, drop_all, append-nil}
use Rattle.std.specs.Option.{option_map_or}
use Rattle.pb_frame.specs.Admission.{same}
use Rattle.pb_frame.proofs.Lists.{and-left, and-right}
use Rattle.toml.specs.Data.{Data, as_str}
use Rattle.toml.specs.View.{view, items_view}
use Rattle.toml.specs.declared.value.Value.{Value}
use Rattle.pb_service.specs.Tables.{AreFrames}
use Rattle.pb_service.specs.Values.{all_items, any_item, is_hex, is_text, text_in}

pub any_at : (test : Data → Bool) (vs : List Value) (i : ℕ) (d x : Value) → i < length vs → x ≡ get_or vs i d
    → test (view x) ≡ true → any_item test (items_view vs) ≡ true
any_at test [] i d x h is t = absurd (omega arith)
any_at test (v ∷ vs) zero d x h is t = rw (← is, t)
any_at test (v ∷ vs) (suc i) d x h is t =
    elim (cases_Bool (test (view v))) [
      | inl this ↦ rw this
      | inr other ↦ rw (other, any_at test vs i d x (omega arith) is t)
    ]

-- a test that all items pass holds of the item at an index
pub all_at : (test : Data → Bool) (vs : List Value) (i : ℕ) (d x : Value) → all_items test (items_view vs) ≡ true
    → i < length vs → x ≡ get_or vs i d → test (view x) ≡ true
all_at test [] i d x a h is = absurd (omega arith)
all_at test (v ∷ vs) zero d x a h is = rw is (and-left (test (view v)) (all_items test (items_view vs)) a)
all_at test (v ∷ vs) (suc i) d x a h is =
    all_at test vs i d x (and-right (test (view v)) (all_items test (items_view vs)) a) (omega arith) is

text_passes : (test : List ℕ → Bool) (text : Option (List ℕ)) → option_map_or test text false ≡ true
    → test (unwrap_or text []) ≡ true
text_passes test None h = absurd (false≢true h)
text_passes test (Some t) h = h

-- the item at an index is hexadecimal if all are (used by `frames_of`)
pub hex_at : (vs : List Value) (i : ℕ) (d x : Value) (t : List ℕ) → all_items (is_text is_hex) (items_view vs) ≡ true
    → i < length vs → x ≡ get_or vs i d → t ≡ text_in (view x) → is_hex t ≡ true
hex_at vs i d x t a h is et = rw et (text_passes is_hex (as_str (view x)) (all_at (is_text is_hex) vs i d x a h is))

pub frames_end : (vs : List Value) (n : ℕ) (frames : List (List ℕ)) → length vs ≤ n
    → ((more : List (List ℕ)) → AreFrames (items_view (drop n vs)) more → AreFrames (items_view vs) (frames ++ more))
    → AreFrames (items_view vs) frames
frames_end vs n frames h f =
    let none : AreFrames (items_view (drop n vs)) [] = rw (drop_all n vs h) tt in
    rw append-nil at (f [] none)
