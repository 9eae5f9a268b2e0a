-- What searches in a text say of its parts.
use Rattle.std.proofs.Common.{◌≡◌, ◌↔◌, ℕ, ◌+◌, ◌-◌, ◌<◌, ◌≤◌, List, [], ◌∷◌, ◌++◌, length, drop, take, decimal}
use Rattle.std.proofs.Common.{Option, Some, None, Result, Ok, Err, Bor, refl, sym, ap, subst, ◌∙◌, arith}
use Rattle.std.proofs.Common.{IfSome, IsSome, MatchOption, ◌^◌}
use Rattle.std.proofs.lemmas.Bool.{false≢true}
use Rattle.std.proofs.lemmas.Fmt.{decimal_nonempty, IsAscii-decimal, parse-decimal}
use Rattle.std.proofs.lemmas.List.{take-append-drop, take_at}
use Rattle.std.proofs.lemmas.List.Prefix.{front_fits, front_reads}
use Rattle.std.proofs.lemmas.Str.{IsCharBoundary-after_ascii}
use Rattle.std.proofs.Transfers.{drop-appended}
use Rattle.std.specs.Char.{is_ascii_digit}
use Rattle.std.specs.List.{prefix_len}
use Rattle.std.specs.Str.{IsCharBoundary, IsUtf8}
use Rattle.std.specs.Result.{result_ok}
use Rattle.std.specs.Str.Parse.{ParsesUnsigned}
use Rattle.std.specs.Str.Pattern.{FindsText, MatchBeginsAt, SplitsAroundMatch}
use Rattle.pb_export.specs.Fitting.{Lacks, IsCut, IsUpTo, IsNumber}

-- the place of a match cuts a text into these parts
parts_are : (front back text : List ℕ) (k : ℕ) → front ≡ take k text → back ≡ drop k text → text ≡ front ++ back
parts_are front back text k f b =
    sym (take-append-drop k text) ∙ ap (λ z. z ++ drop k text) (sym f) ∙ ap (λ z. front ++ z) (sym b)

-- the parts around the first match
pub around_first : (middle text : List ℕ) (r : Option (Bor (List ℕ) × Bor (List ℕ)))
    → MatchOption r (FindsText middle text None) (λ x. SplitsAroundMatch (FindsText middle) text x.0.now x.1.now)
    → MatchOption r (Lacks middle text) (λ parts. IsCut middle text parts.0.now (middle ++ parts.1.now))
around_first middle text None h =
    λ front rest e.
    h (length front) (front_fits text front (middle ++ rest) e) rest (drop-appended front text (middle ++ rest) e)
around_first middle text (Some x) h = record {
  text_is = parts_are x.0.now (middle ++ x.1.now) text h.0 h.3 (ap (λ z. middle ++ z) h.4 ∙ sym h.2.1.split);
  next_is = (x.1.now, refl);
  first = λ i low has. h.2.0 i (omega (arith, low, h.6)) has.0 has.1;
}

-- the parts before and from the first match on
pub before_some : (next text : List ℕ) (k : ℕ) (r : Option (Bor (List ℕ) × Bor (List ℕ))) → 0 < length next
    → MatchBeginsAt (FindsText next) text k → (IsSome r ↔ IsCharBoundary text k)
    → IfSome r (λ x. x.0.now ≡ take k text) → IfSome r (λ x. x.1.now ≡ drop k text)
    → IfSome r (λ x. length x.0.now ≡ k)
    → MatchOption r ((front back : List ℕ) → IsUpTo next text front back → ⊥)
    (λ parts. IsUpTo next text parts.0.now parts.1.now)
before_some [] text k r some m v f b n = absurd (omega arith)
before_some (c ∷ next) text k None some m v f b n = absurd (false≢true (v.1 m.3))
before_some (c ∷ next) text k (Some x) some m v f b n = record {
  text_is = parts_are x.0.now x.1.now text k f b;
  next_is = (drop m.0 text, b ∙ m.1.1.split);
  first = λ i low has. m.1.0 i (omega (arith, low, n)) has.0 has.1;
}

pub before_none : (next text front back : List ℕ) → 0 < length next → FindsText next text None
    → IsUpTo next text front back → ⊥
before_none [] text front back some lacks cut = absurd (omega arith)
before_none (c ∷ next) text front back some lacks cut =
    lacks (length front) (front_fits text front back cut.text_is) cut.next_is.0
    (drop-appended front text back cut.text_is ∙ cut.next_is.1)

-- a text may be cut after the digits of a number
pub number_boundary : (n : ℕ) (text back : List ℕ) → IsUtf8 text → IsNumber n text back
    → IsCharBoundary text (prefix_len is_ascii_digit text)
number_boundary n text back utf8 is =
    let some : 0 < length (decimal n) = decimal_nonempty n is.range in
    let fits : length (decimal n) ≤ length text = front_fits text (decimal n) back is.text_is in
    let last = length (decimal n) - 1 in
    let same = front_reads 0 text (decimal n) back is.text_is last (omega arith) in
    let next : last + 1 ≡ prefix_len is_ascii_digit text = omega (arith, is.whole) in
    subst (IsCharBoundary text) next
    (IsCharBoundary-after_ascii text last utf8 (omega arith) (omega (arith, same, IsAscii-decimal n is.range last)))

-- the digits at the start of a number are the number
pub digits_are : (n k : ℕ) (text back digits : List ℕ) → IsNumber n text back → k ≡ prefix_len is_ascii_digit text
    → digits ≡ take k text → digits ≡ decimal n
digits_are n k text back digits is count e =
    e ∙ ap (λ m. take m text) (count ∙ is.whole) ∙ ap (take (length (decimal n))) is.text_is
    ∙ take_at (decimal n) back (length (decimal n)) refl

-- a number is parsed
pub number_parsed : {E : Type 0} (n k : ℕ) (text back digits : List ℕ) (r : Result ℕ E) → IsNumber n text back
    → k ≡ prefix_len is_ascii_digit text → digits ≡ take k text → ParsesUnsigned 64 10 digits r → r ≡ Ok n
number_parsed n k text back digits r is count e parses =
    parse-decimal 64 n digits r is.range is.range (digits_are n k text back digits is count e) parses

pub not_parsed : {E : Type 0} (n : ℕ) (r : Result ℕ E) → r ≡ Ok n → None ≡ result_ok r → ⊥
not_parsed n r e f = let g : result_ok r ≡ Some n = ap result_ok e in cc

pub parsed_as : {E : Type 0} (m n : ℕ) (r : Result ℕ E) → r ≡ Ok n → Some m ≡ result_ok r → m ≡ n
parsed_as m n r e f = let g : result_ok r ≡ Some n = ap result_ok e in cc

-- a parsed number is in range
pub parsed_range : {E : Type 0} (m : ℕ) (digits : List ℕ) (r : Result ℕ E) → ParsesUnsigned 64 10 digits r
    → Some m ≡ result_ok r → m < 2 ^ 64
parsed_range m digits (Ok n) parses f = let e : m ≡ n = cc in omega (arith, e, parses.0.1, parses.1)
parsed_range m digits (Err e) parses f = cc
