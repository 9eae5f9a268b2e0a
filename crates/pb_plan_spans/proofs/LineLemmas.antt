-- The lines of a file one by one.
use Rattle.std.proofs.Common.{◌≡◌, ℕ, suc, ◌+◌, ◌<◌, ◌≤◌, Bool, true, false, List, [], ◌∷◌, length, get_or, take}
use Rattle.std.proofs.Common.{drop, Some, None, refl, sym, ap, ◌∙◌, arith, add-one, drop-cons}
use Rattle.std.specs.Prelude.{Option, ◌==◌, ◌||◌, not, nat_lt, cond}
use Rattle.std.specs.List.{onto_first, position_or_len}
use Rattle.std.specs.Option.{option_map}
use Rattle.std.proofs.lemmas.Bool.{ltb-true, ltb-false}
use Rattle.std.proofs.lemmas.List.Splits.{slice_split_first}
use Rattle.pb_plan_spans.specs.Lines.{lines_of, begins_text, has_text}
use Rattle.pb_plan_spans.specs.Places.{parted}

-- a text without a line feed is one line
one_line : (text : List ℕ) → length text ≤ position_or_len (λ b. b == 10) text → lines_of text ≡ text ∷ []
one_line [] l = refl
one_line (x ∷ text) l = step (x == 10) l (λ h. one_line text h)
  where
    step : (e : Bool) → suc (length text) ≤ cond (not e) (1 + position_or_len (λ b. b == 10) text) 0
        → (length text ≤ position_or_len (λ b. b == 10) text → lines_of text ≡ text ∷ [])
        → cond e ([] ∷ lines_of text) (onto_first x (lines_of text)) ≡ (x ∷ text) ∷ []
    step true h rest = absurd (omega arith)
    step false h rest = ap (λ parts. onto_first x parts) (rest (omega arith))

-- the lines of a text that is divided at the end of its first line, or that is one line
lines_parted : List ℕ → Option (List ℕ × List ℕ) → List (List ℕ)
lines_parted text None = text ∷ []
lines_parted text (Some p) = p.0 ∷ lines_of p.1

parted_lines : (text : List ℕ) → lines_of text ≡ lines_parted text (parted 10 text)
unfolding lines_parted
parted_lines text = step (nat_lt at (length text)) refl
  where
    at : ℕ
    at = position_or_len (λ b. b == 10) text

    step : (e : Bool) → nat_lt at (length text) ≡ e
        → lines_of text ≡ lines_parted text (option_map (λ n. (take n text, drop (n + 1) text)) (cond e (Some at) None))
    step true h = slice_split_first (λ b. b == 10) text 0 (ltb-true _ _ h)
    step false h = one_line text (ltb-false _ _ h)

pub first_line : (text line rest : List ℕ) → Some (line, rest) ≡ parted 10 text → lines_of text ≡ line ∷ lines_of rest
unfolding lines_parted
first_line text line rest e = parted_lines text ∙ ap (λ o. lines_parted text o) (sym e)

pub last_line : (text : List ℕ) → None ≡ parted 10 text → lines_of text ≡ text ∷ []
unfolding lines_parted
last_line text e = parted_lines text ∙ ap (λ o. lines_parted text o) (sym e)

-- no text of several lines begins at this octet (used by the loop of `has_text`)
pub text_more : (file : List ℕ) (i : ℕ) → i < length file → begins_text (drop i file) ≡ false
    → has_text (drop i file) ≡ has_text (drop (i + 1) file)
text_more file i l h =
    let e : drop i file ≡ get_or file i 0 ∷ drop (i + 1) file = rw (add-one, drop-cons file i 0) refl in
    ap has_text e ∙ ap (λ b. b || has_text (drop (i + 1) file)) (ap begins_text (sym e) ∙ h)
