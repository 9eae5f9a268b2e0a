-- Lists of texts without repetition, and the set of the texts behind a place.
use Rattle.std.proofs.Common.{◌≡◌, ℕ, ◌+◌, ◌-◌, ◌<◌, ◌≤◌, Bool, true, false, zero, suc, List, [], ◌∷◌, length, get_or, drop}
use Rattle.std.proofs.Common.{Option, Some, None, unwrap_or, Bor, BTreeSet, cond, refl, sym, ap, subst, ◌∙◌, inl, inr, arith}
use Rattle.std.specs.Prelude.{◌||◌, ◌&&◌, not}
use Rattle.std.specs.BTreeSet.{contains, Updates}
use Rattle.std.specs.Cmp.Lexicographic.{slice_cmp}
use Rattle.std.specs.Option.{option_map_or}
use Rattle.std.specs.Ordering.{nat_cmp, is_eq}
use Rattle.std.specs.declared.cmp.Ordering.{Ordering}
use Rattle.std.proofs.lemmas.Bool.{cases_Bool, false≢true}
use Rattle.std.proofs.lemmas.List.{drop_more, drop_all}
use Rattle.std.proofs.lemmas.Map.Text.{is_eq-slice_cmp}
use Rattle.pb_frame.specs.Admission.{same}
use Rattle.pb_frame.proofs.Lists.{same-one}
use Rattle.pb_lan.specs.Names.{is_name}
use Rattle.toml.specs.Data.{Data, as_str}
use Rattle.toml.specs.View.{view, items_view}
use Rattle.toml.specs.declared.value.Value.{Value}
use Rattle.pb_service.specs.Values.{all_items, any_item, are_distinct, is_text, text_in}
use Rattle.pb_service.proofs.Distinctness.{same-flip}
use Rattle.pb_service.proofs.Items.{all_at}

-- the order of texts
abbrev pub text_cmp : Bor (List ℕ) → Bor (List ℕ) → Ordering
text_cmp x y = slice_cmp nat_cmp x.now y.now

-- the set has the texts of the items from a place on
pub record HasTexts (items : List Value) (place : ℕ) (seen : BTreeSet (Bor (List ℕ))) : Type 0 where
  pub within : place ≤ length items
  pub distinct : are_distinct (items_view (drop place items)) ≡ true
  pub found : (text : Bor (List ℕ)) → contains text_cmp seen text
      ≡ any_item (is_text (same text.now)) (items_view (drop place items))

same-swap : (a b : List ℕ) → same a b ≡ same b a
same-swap a b = elim (cases_Bool (same a b)) [
  | inl equal ↦ subst (λ z. same a z ≡ same z a) (same-one a b equal) refl
  | inr other ↦ other ∙ sym (same-flip a b other)
]

there : (one test : List ℕ → Bool) (text : Option (List ℕ)) → option_map_or one text false ≡ true
    → option_map_or test text false ≡ test (unwrap_or text [])
there one test None h = absurd (false≢true h)
there one test (Some t) h = refl

either : (a b : Bool) → cond a true b ≡ (a || b)
either true b = refl
either false b = refl

and-false : (a : Bool) → (a && false) ≡ false
and-false true = refl
and-false false = refl

-- the text of a name passes a test as the name does
name_is : (test : List ℕ → Bool) (vs : List Value) (i : ℕ) (d x : Value) → all_items (is_text is_name) (items_view vs) ≡ true
    → i < length vs → x ≡ get_or vs i d → is_text test (view x) ≡ test (text_in (view x))
name_is test vs i d x all h is = there is_name test (as_str (view x)) (all_at (is_text is_name) vs i d x all h is)

-- the set before anything is inserted
pub none_found : (vs : List Value) (seen : BTreeSet (Bor (List ℕ))) → seen.keys ≡ [] → HasTexts vs (length vs) seen
none_found vs seen none = record {
  within = omega arith;
  distinct = rw (drop_all (length vs) vs (omega arith)) refl;
  found = λ text. rw (none, drop_all (length vs) vs (omega arith)) refl;
}

-- the set with the text before
pub found_next : (vs : List Value) (n : ℕ) (d x : Value) (text : Bor (List ℕ)) (old new : BTreeSet (Bor (List ℕ)))
    → all_items (is_text is_name) (items_view vs) ≡ true → 0 < n → HasTexts vs n old → x ≡ get_or vs (n - 1) d
    → text.now ≡ text_in (view x) → Updates text_cmp old new text true → contains text_cmp old text ≡ false
    → HasTexts vs (n - 1) new
found_next vs n d x text old new all more has is told updates absent =
    let here : n - 1 < length vs = omega (arith, has.within) in
    let next : n - 1 + 1 ≡ n = omega arith in
    let front : drop (n - 1) vs ≡ x ∷ drop n vs = drop_more vs (n - 1) d here ∙ rw (← is, next) refl in
    let later : any_item (is_text (same (text_in (view x)))) (items_view (drop n vs)) ≡ false
    = rw (← told) (sym (has.found text) ∙ absent) in
    record {
      within = omega (arith, has.within);
      distinct = rw (front, later, has.distinct) refl;
      found = λ other.
          let test = same other.now in
          let rest = any_item (is_text test) (items_view (drop n vs)) in
          let head : is_text test (view x) ≡ test text.now
          = name_is test vs (n - 1) d x all here is ∙ ap test (sym told) in
          let last : any_item (is_text test) (items_view (drop (n - 1) vs)) ≡ (test text.now || rest)
          = ap (λ items. any_item (is_text test) (items_view items)) front ∙ ap (λ b. b || rest) head in
          let at : is_eq (text_cmp text other) ≡ test text.now
          = is_eq-slice_cmp text.now other.now ∙ same-swap text.now other.now in
          updates.0 other ∙ either (is_eq (text_cmp text other)) (contains text_cmp old other)
          ∙ ap (λ b. b || contains text_cmp old other) at ∙ ap (λ b. test text.now || b) (has.found other) ∙ sym last;
    }

tail_repeats : (vs : List Value) (i : ℕ) → are_distinct (items_view (drop i vs)) ≡ false → are_distinct (items_view vs) ≡ false
tail_repeats vs zero h = h
tail_repeats [] (suc i) h = h
tail_repeats (v ∷ vs) (suc i) h = rw (tail_repeats vs i h, and-false (not (any_item (is_text (same (text_in (view v)))) (items_view vs)))) refl

-- a text that the set has stands twice
pub found_twice : (vs : List Value) (n : ℕ) (d x : Value) (text : Bor (List ℕ)) (seen : BTreeSet (Bor (List ℕ)))
    → 0 < n → HasTexts vs n seen → x ≡ get_or vs (n - 1) d → text.now ≡ text_in (view x)
    → contains text_cmp seen text ≡ true → are_distinct (items_view vs) ≡ false
found_twice vs n d x text seen more has is told found =
    let here : n - 1 < length vs = omega (arith, has.within) in
    let next : n - 1 + 1 ≡ n = omega arith in
    let front : drop (n - 1) vs ≡ x ∷ drop n vs = drop_more vs (n - 1) d here ∙ rw (← is, next) refl in
    let later : any_item (is_text (same (text_in (view x)))) (items_view (drop n vs)) ≡ true
    = rw (← told) (sym (has.found text) ∙ found) in
    tail_repeats vs (n - 1) (rw (front, later) refl)
