-- A text is read in one way: what comes after a value is determined.
use Rattle.std.proofs.Common.{◌≡◌, ◌⊎◌, inl, inr, ℕ, zero, suc, ◌+◌, ◌-◌, ◌<◌, ◌≤◌, List, [], ◌∷◌, ◌++◌, length}
use Rattle.std.proofs.Common.{drop, take, codes, decimal, refl, sym, ap, subst, ◌∙◌, arith, append_assoc}
use Rattle.std.proofs.Common.{length-append, get_or, Bor, Option, Some, None}
use Rattle.std.proofs.Common.{MatchOption}
use Rattle.std.proofs.lemmas.Bool.{cases_lt}
use Rattle.std.proofs.lemmas.List.{append_cancel_left, take_at, drop_more, take_more, take-append-drop}
use Rattle.std.proofs.lemmas.List.Elements.{All-push}
use Rattle.std.proofs.Transfers.{drop-appended}
use Rattle.std.specs.Prelude.{All, IfSome}
use Rattle.pb_export.specs.Fitting.{spaces, Begins, IsCut, IsUpTo, AreWords, IsNumber, IsSpacedNumber, AreNumbers}
use Rattle.pb_export.specs.Fitting.{Lacks, AreGroups, HasGroups, IsAfterEnding, IsAfterChoice, IsAfterValue, FitSlots}
use Rattle.pb_export.specs.Fitting.{IsDepth, IsAfterSingle, IsAfterWords, EndsAt, FitsTemplate}
use Rattle.pb_export.specs.Rows.{words_text, IsFirstOf}
use Rattle.pb_export.specs.declared.templates.Kind.{Kind}
use Rattle.pb_export.specs.declared.templates.Kind.TheVariants as kind
use Rattle.pb_export.specs.declared.templates.Choice.{Choice}
use Rattle.pb_export.specs.declared.templates.Slot.{Slot}
use Rattle.pb_export.specs.declared.templates.Template.{Template}

-- the text up to the place of a cut
front_seam : (front back text : List ℕ) → text ≡ front ++ back → take (length front) text ≡ front
front_seam front back text e = ap (take (length front)) e ∙ take_at front back (length front) refl

-- two cuts of a text at places of one length
same_cut : (text f b g d : List ℕ) → length f ≡ length g → text ≡ f ++ b → text ≡ g ++ d → (f ≡ g) × (b ≡ d)
same_cut text f b g d same p q = (
  sym (front_seam f b text p) ∙ ap (λ n. take n text) same ∙ front_seam g d text q,
  sym (drop-appended f text b p) ∙ ap (λ n. drop n text) same ∙ drop-appended g text d q,
)

-- a text is cut in one way
cut_here : (next text front back : List ℕ) → IsCut next text front back → Begins next (drop (length front) text)
cut_here next text front back cut = subst (Begins next) (sym (drop-appended front text back cut.text_is)) cut.next_is

pub cut_one : (next text f b g d : List ℕ) → IsCut next text f b → IsCut next text g d → (f ≡ g) × (b ≡ d)
cut_one next text f b g d p q = elim (cases_lt (length f) (length g)) [
  | inl low ↦ absurd (q.first (length f) low (cut_here next text f b p))
  | inr high ↦ elim (cases_lt (length g) (length f)) [
    | inl low ↦ absurd (p.first (length g) low (cut_here next text g d q))
    | inr least ↦ let same : length f ≡ length g = omega arith in same_cut text f b g d same p.text_is q.text_is
  ]
]

pub up_to_one : (next text f b g d : List ℕ) → IsUpTo next text f b → IsUpTo next text g d → (f ≡ g) × (b ≡ d)
up_to_one [] text f b g d p q = (sym p.0 ∙ q.0, p.1 ∙ sym q.1)
up_to_one (c ∷ next) text f b g d p q = cut_one (c ∷ next) text f b g d p q

-- numbers
number_one : (m n : ℕ) (text a b : List ℕ) → IsNumber m text a → IsNumber n text b → a ≡ b
number_one m n text a b p q =
    (same_cut text (decimal m) a (decimal n) b (sym p.whole ∙ q.whole) p.text_is q.text_is).1

pub spaced_one : (m n : ℕ) (text a b : List ℕ) → IsSpacedNumber m text a → IsSpacedNumber n text b → a ≡ b
spaced_one m n text a b p q =
    number_one m n p.0 a b p.2
    (subst (λ t. IsNumber n t b) (append_cancel_left (32 ∷ []) q.0 p.0 (sym q.1 ∙ p.1)) q.2)

-- a number after a space, from one at the start of what comes after it
pub spaced_from : (text inner : List ℕ) (r : Option (ℕ × Bor (List ℕ))) → text ≡ 32 ∷ inner
    → MatchOption r ((n : ℕ) (back : List ℕ) → IsNumber n inner back → ⊥) (λ parts. IsNumber parts.0 inner parts.1.now)
    → MatchOption r ((n : ℕ) (back : List ℕ) → IsSpacedNumber n text back → ⊥)
    (λ parts. IsSpacedNumber parts.0 text parts.1.now)
spaced_from text inner None e bad = λ n back is.
    bad n back (subst (λ t. IsNumber n t back) (append_cancel_left (32 ∷ []) is.0 inner (sym is.1 ∙ e)) is.2)
spaced_from text inner (Some parts) e is = (inner, e, is)

numbers_one : (ms ns text a b : List ℕ) → AreNumbers ms text a → AreNumbers ns text b → a ≡ b
numbers_one [] [] text a b p q = p.0 ∙ sym q.0
numbers_one [] (n ∷ ns) text a b p q = absurd (p.1 n q.0 q.1)
numbers_one (m ∷ ms) [] text a b p q = absurd (q.1 m p.0 p.1)
numbers_one (m ∷ ms) (n ∷ ns) text a b p q =
    numbers_one ms ns p.0 a b p.2
    (subst (λ t. AreNumbers ns t b) (spaced_one n m text q.0 p.0 q.1 p.1) q.2)

-- one more number, for the loop of numbers_at
pub numbers_more : (numbers new : List ℕ) (n : ℕ) (text rest later : List ℕ) → new ≡ numbers ++ n ∷ []
    → IsSpacedNumber n rest later
    → ((ns back : List ℕ) → AreNumbers ns rest back → AreNumbers (numbers ++ ns) text back)
    → (ns back : List ℕ) → AreNumbers ns later back → AreNumbers (new ++ ns) text back
numbers_more numbers new n text rest later grown is all ns back are =
    subst (λ ms. AreNumbers ms text back)
    (sym (ap (λ z. z ++ ns) grown ∙ append_assoc numbers (n ∷ []) ns)) (all (n ∷ ns) back (later, is, are))

-- pairs of spaces
shorter_spaces : (k n : ℕ) (a b : List ℕ) → suc n ≤ k → a ≡ spaces (suc n) ++ b
    → (0 ≡ k) ⊎ (Begins (32 ∷ 32 ∷ []) a → ⊥) → ⊥
shorter_spaces k n a b most e (inl none) = absurd (omega arith)
shorter_spaces k n a b most e (inr bad) = bad (spaces n ++ b, e)

less : (k m : ℕ) (P : Type 0) → (suc m ≡ k) ⊎ P → (m ≡ k - 1) ⊎ P
less k m P (inl e) = inl (omega arith)
less k m P (inr p) = inr p

spaces_one : (k m n : ℕ) (a b : List ℕ) → m ≤ k → n ≤ k → spaces m ++ a ≡ spaces n ++ b
    → (m ≡ k) ⊎ (Begins (32 ∷ 32 ∷ []) a → ⊥) → (n ≡ k) ⊎ (Begins (32 ∷ 32 ∷ []) b → ⊥) → a ≡ b
spaces_one k zero zero a b p q e s t = e
spaces_one k zero (suc n) a b p q e s t = absurd (shorter_spaces k n a b q e s)
spaces_one k (suc m) zero a b p q e s t = absurd (shorter_spaces k m b a p (sym e) t)
spaces_one k (suc m) (suc n) a b p q e s t =
    spaces_one (k - 1) m n a b (omega arith) (omega arith)
    (append_cancel_left (32 ∷ 32 ∷ []) (spaces m ++ a) (spaces n ++ b) e) (less k m _ s) (less k n _ t)

-- an ending, and choices
ending_one : (text a b : List ℕ) → IsAfterEnding text a → IsAfterEnding text b → a ≡ b
ending_one text a b (inl p) (inl q) = append_cancel_left (codes "s") a b (sym p ∙ q)
ending_one text a b (inl p) (inr q) = absurd (q.0 (a, p))
ending_one text a b (inr p) (inl q) = absurd (p.0 (b, q))
ending_one text a b (inr p) (inr q) = sym p.1 ∙ q.1

choice_one : (choices : List Choice) (text a b : List ℕ) → IsAfterChoice choices text a → IsAfterChoice choices text b
    → a ≡ b
choice_one [] text a b p q = absurd p
choice_one (c ∷ cs) text a b (inl p) (inl q) = append_cancel_left c.text.now a b (sym p ∙ q)
choice_one (c ∷ cs) text a b (inl p) (inr q) = absurd (q.0 (a, p))
choice_one (c ∷ cs) text a b (inr p) (inl q) = absurd (p.0 (b, q))
choice_one (c ∷ cs) text a b (inr p) (inr q) = choice_one cs text a b p.1 q.1

-- a value of each kind
pub value_one : (k : Kind) (next text a b : List ℕ) → IsAfterValue k next text a → IsAfterValue k next text b → a ≡ b
value_one kind.Text next text a b p q = (up_to_one next text p.0 a q.0 b p.1 q.1).1
value_one kind.Number next text a b p q = number_one p.0 q.0 text a b p.1 q.1
value_one kind.Depth next text a b p q =
    spaces_one 64 p.0 q.0 a b p.1.most q.1.most (sym p.1.text_is ∙ q.1.text_is) p.1.whole q.1.whole
value_one kind.Words next text a b p q = (up_to_one next text p.0 a q.0 b p.1 q.1).1
value_one kind.Numbers next text a b p q = numbers_one p.0 q.0 text a b p.1 q.1
value_one kind.Groups next text a b p q = p.1 ∙ sym q.1
value_one kind.Plural next text a b p q = ending_one text a b p q
value_one (kind.OneOf choices) next text a b p q = choice_one choices.now text a b p q

-- a value of a kind that isn't a list
pub single_ends : {X : Type 0} (k : Kind) (next text : List ℕ) (r : Option (X × Bor (List ℕ)))
    → (k ≡ kind.Text) ⊎ ((k ≡ kind.Number) ⊎ ((k ≡ kind.Depth) ⊎ ((k ≡ kind.Plural)
    ⊎ ((choices : Bor (List Choice)) × (k ≡ kind.OneOf choices)))))
    → EndsAt (IsAfterSingle k next text) r → EndsAt (IsAfterValue k next text) r
single_ends kind.Text next text r is ends = ends
single_ends kind.Number next text r is ends = ends
single_ends kind.Depth next text r is ends = ends
single_ends kind.Plural next text r is ends = ends
single_ends (kind.OneOf choices) next text r is ends = ends
single_ends kind.Words next text r (inl e) ends = cc
single_ends kind.Words next text r (inr (inl e)) ends = cc
single_ends kind.Words next text r (inr (inr (inl e))) ends = cc
single_ends kind.Words next text r (inr (inr (inr (inl e)))) ends = cc
single_ends kind.Words next text r (inr (inr (inr (inr (choices, e))))) ends = cc
single_ends kind.Numbers next text r (inl e) ends = cc
single_ends kind.Numbers next text r (inr (inl e)) ends = cc
single_ends kind.Numbers next text r (inr (inr (inl e))) ends = cc
single_ends kind.Numbers next text r (inr (inr (inr (inl e)))) ends = cc
single_ends kind.Numbers next text r (inr (inr (inr (inr (choices, e))))) ends = cc
single_ends kind.Groups next text r (inl e) ends = cc
single_ends kind.Groups next text r (inr (inl e)) ends = cc
single_ends kind.Groups next text r (inr (inr (inl e))) ends = cc
single_ends kind.Groups next text r (inr (inr (inr (inl e)))) ends = cc
single_ends kind.Groups next text r (inr (inr (inr (inr (choices, e))))) ends = cc

pub both_some : {X : Type 0} (A B : X → Type 0) (r : Option X) → IfSome r A → IfSome r B → IfSome r (λ x. A x × B x)
both_some A B None a b = a
both_some A B (Some x) a b = (a, b)

-- words
pub words_are : (ws : List (Bor (List ℕ))) (text : List ℕ) → text ≡ words_text ws → AreWords text
words_are [] text e = inl e
words_are (w ∷ ws) text e = inr (w.now ++ words_text ws, e)

-- words up to a place, if what comes before it is no words
pub words_none : (next text f b back : List ℕ) → IsUpTo next text f b → (AreWords f → ⊥) → IsAfterWords next text back
    → ⊥
words_none next text f b back up bad after =
    bad (subst AreWords (up_to_one next text after.0 back f b after.1 up).0 after.2)

-- groups of words, one after the other
cut_has : (next text front later : List ℕ) → IsCut next text front (next ++ later) → Lacks next text → ⊥
cut_has next text front later cut lacks = lacks front later cut.text_is

groups_tail : (groups : List (List ℕ)) (text front later : List ℕ) → IsCut (codes " |") text front (codes " |" ++ later)
    → AreGroups groups text → AreWords front × HasGroups later
groups_tail [] text front later cut are = absurd (cut_has (codes " |") text front later cut are.1)
groups_tail (g ∷ gs) text front later cut are =
    let same = cut_one (codes " |") text g (codes " |" ++ are.1.0) front (codes " |" ++ later) are.1.1 cut in (
      subst AreWords same.0 are.0,
      subst HasGroups (append_cancel_left (codes " |") are.1.0 later same.1) (gs, are.1.2),
    )

pub groups_next : (text front later : List ℕ) → IsCut (codes " |") text front (codes " |" ++ later) → HasGroups text
    → AreWords front × HasGroups later
groups_next text front later cut has = groups_tail has.0 text front later cut has.1

pub groups_more : (text front later : List ℕ) → IsCut (codes " |") text front (codes " |" ++ later) → AreWords front
    → HasGroups later → HasGroups text
groups_more text front later cut words has = (front ∷ has.0, (words, (later, cut, has.1)))

groups_last : (groups : List (List ℕ)) (text : List ℕ) → Lacks (codes " |") text → AreGroups groups text → AreWords text
groups_last [] text lacks are = are.0
groups_last (g ∷ gs) text lacks are = absurd (cut_has (codes " |") text g are.1.0 are.1.1 lacks)

pub groups_end : (text : List ℕ) → Lacks (codes " |") text → HasGroups text → AreWords text
groups_end text lacks has = groups_last has.0 text lacks has.1

-- one more choice that the text doesn't begin with
choice_tail : (c : Choice) (cs : List Choice) (text back : List ℕ) → IsAfterChoice (c ∷ cs) text back
    → (Begins c.text.now text → ⊥) → IsAfterChoice cs text back
choice_tail c cs text back (inl e) bad = absurd (bad (back, e))
choice_tail c cs text back (inr h) bad = h.1

pub choice_next : (choices : List Choice) (i : ℕ) (d : Choice) (text back : List ℕ) → i < length choices
    → (Begins (get_or choices i d).text.now text → ⊥) → IsAfterChoice (drop i choices) text back
    → IsAfterChoice (drop (i + 1) choices) text back
choice_next choices i d text back below bad h =
    choice_tail (get_or choices i d) (drop (i + 1) choices) text back
    (subst (λ cs. IsAfterChoice cs text back) (drop_more choices i d below) h) bad

pub choice_back : (choices : List Choice) (i : ℕ) (d : Choice) (text back : List ℕ) → i < length choices
    → (Begins (get_or choices i d).text.now text → ⊥) → IsAfterChoice (drop (i + 1) choices) text back
    → IsAfterChoice (drop i choices) text back
choice_back choices i d text back below bad h =
    subst (λ cs. IsAfterChoice cs text back) (sym (drop_more choices i d below)) (inr (bad, h))

pub choice_found : (choices : List Choice) (i : ℕ) (d : Choice) (text back : List ℕ) → i < length choices
    → text ≡ (get_or choices i d).text.now ++ back → IsAfterChoice (drop i choices) text back
choice_found choices i d text back below e =
    subst (λ cs. IsAfterChoice cs text back) (sym (drop_more choices i d below)) (inl e)

-- one slot after the other
abbrev Follows : Slot → List ℕ → List ℕ → Type 0
Follows s text rest = IsAfterValue s.kind s.until.now text (s.until.now ++ rest)

pub follows_one : (s : Slot) (text a b : List ℕ) → Follows s text a → Follows s text b → a ≡ b
follows_one s text a b p q = append_cancel_left s.until.now a b
    (value_one s.kind s.until.now text (s.until.now ++ a) (s.until.now ++ b) p q)

slots_tail : (s : Slot) (ss : List Slot) (text later : List ℕ) → Follows s text later → FitSlots (s ∷ ss) text
    → FitSlots ss later
slots_tail s ss text later is fits = subst (FitSlots ss) (follows_one s text fits.0 later fits.1 is) fits.2

pub slots_next : (slots : List Slot) (i : ℕ) (d : Slot) (text later : List ℕ) → i < length slots
    → Follows (get_or slots i d) text later → FitSlots (drop i slots) text → FitSlots (drop (i + 1) slots) later
slots_next slots i d text later below is fits =
    slots_tail (get_or slots i d) (drop (i + 1) slots) text later is
    (subst (λ ss. FitSlots ss text) (drop_more slots i d below) fits)

pub slots_back : (slots : List Slot) (i : ℕ) (d : Slot) (text later : List ℕ) → i < length slots
    → Follows (get_or slots i d) text later → FitSlots (drop (i + 1) slots) later → FitSlots (drop i slots) text
slots_back slots i d text later below is fits =
    subst (λ ss. FitSlots ss text) (sym (drop_more slots i d below)) (later, is, fits)

slots_none : (s : Slot) (ss : List Slot) (text : List ℕ) → ((rest : List ℕ) → Follows s text rest → ⊥)
    → FitSlots (s ∷ ss) text → ⊥
slots_none s ss text bad fits = bad fits.0 fits.1

pub slots_end : (slots : List Slot) (i : ℕ) (d : Slot) (text : List ℕ) → i < length slots
    → ((rest : List ℕ) → Follows (get_or slots i d) text rest → ⊥) → FitSlots (drop i slots) text → ⊥
slots_end slots i d text below bad fits =
    slots_none (get_or slots i d) (drop (i + 1) slots) text bad
    (subst (λ ss. FitSlots ss text) (drop_more slots i d below) fits)

-- one more template that the line doesn't fit
pub none_more : (templates : List Template) (i : ℕ) (d : Template) (line : List ℕ) → i < length templates
    → All (λ t. FitsTemplate t line → ⊥) (take i templates) → (FitsTemplate (get_or templates i d) line → ⊥)
    → All (λ t. FitsTemplate t line → ⊥) (take (i + 1) templates)
none_more templates i d line below none bad =
    subst (All (λ (t : Template). FitsTemplate t line → ⊥)) (sym (take_more templates i d below))
    (All-push (λ (t : Template). FitsTemplate t line → ⊥) (take i templates) (get_or templates i d) none bad)

-- the template at which a loop ends
pub first_at : (templates : List Template) (i : ℕ) (d t : Template) (line : List ℕ) → i < length templates
    → t ≡ get_or templates i d → All (λ t. FitsTemplate t line → ⊥) (take i templates) → FitsTemplate t line
    → IsFirstOf templates t line
first_at templates i d t line below is none fits = record {
  earlier = take i templates;
  later = drop (i + 1) templates;
  are = sym (take-append-drop i templates) ∙ ap (λ z. take i templates ++ z) (drop_more templates i d below)
      ∙ ap (λ u. take i templates ++ u ∷ drop (i + 1) templates) (sym is);
  none = none;
  fits = fits;
}

-- what comes before the first end of a line is one line
pub one_line : (line later text : List ℕ) → IsCut (10 ∷ []) text line (10 ∷ later) → Lacks (10 ∷ []) line
one_line line later text cut front rest e =
    cut.first (length front) (omega (arith, ap length e, length-append front (10 ∷ rest))) (
      rest ++ 10 ∷ later,
      drop-appended front text (10 ∷ rest ++ 10 ∷ later)
          (cut.text_is ∙ ap (λ z. z ++ 10 ∷ later) e ∙ append_assoc front (10 ∷ rest) (10 ∷ later)),
    )
