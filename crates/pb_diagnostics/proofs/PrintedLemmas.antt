-- Printed errors are lines without control characters.
use Rattle.std.proofs.Common.{◌≡◌, ℕ, zero, suc, ◌+◌, ◌-◌, ◌%◌, ◌<◌, ◌≤◌, ◌^◌, Bool, true, false, cond}
use Rattle.std.proofs.Common.{List, [], ◌∷◌, ◌++◌, codes, flat_map, take, string_bytes, Option, Some, None}
use Rattle.std.proofs.Common.{refl, sym, ap, subst, ◌∙◌, arith, append_assoc}
use Rattle.std.proofs.lemmas.Fmt.{decimal_by_steps}
use Rattle.std.proofs.lemmas.Grind.{flat_map-append}
use Rattle.std.proofs.lemmas.List.Elements.{All-append, All-nil, All-cons}
use Rattle.std.specs.Fmt.{decimal}
use Rattle.std.specs.List.{All}
use Rattle.std.specs.Option.{option_map_or}
use Rattle.std.specs.Prelude.{nat_lt, ◌==◌, ◌||◌}
use Rattle.pb_printable.specs.Printable.{printable, IsOneLine}
use Rattle.pb_printable.proofs.PrintableLemmas.{IsPrinted, one_line}
use Rattle.pb_diagnostics.specs.Excerpts.{is_first_octet}
use Rattle.pb_diagnostics.specs.PrintedLines.{ArePrintedLines, ended}
use Rattle.pb_diagnostics.specs.Texts.{pad, carets, location, underlined, excerpt_text, hint_line, diagnostic_text}
use Rattle.pb_diagnostics.specs.declared.excerpt.Excerpt.{Excerpt}
use Rattle.pb_diagnostics.specs.declared.diagnostic.Diagnostic.{Diagnostic}

-- one octet more
more : (octet : ℕ) (text : List ℕ) → 32 ≤ octet → octet < 127 → IsOneLine text → IsOneLine (octet ∷ text)
more octet text from below h = All-cons IsPrinted octet text (from, λ e. omega arith) h

none : IsOneLine []
none = All-nil IsPrinted

space : (text : List ℕ) → IsOneLine text → IsOneLine (32 ∷ text)
space text h = more 32 text (omega arith) (omega arith) h

two_spaces : (text : List ℕ) → IsOneLine text → IsOneLine (32 ∷ 32 ∷ text)
two_spaces text h = space (32 ∷ text) (space text h)

four_spaces : IsOneLine (codes "    ")
four_spaces = two_spaces (codes "  ") (two_spaces [] none)

joined : (a b : List ℕ) → IsOneLine a → IsOneLine b → IsOneLine (a ++ b)
joined a b p q = All-append IsPrinted a b p q

digit : (n : ℕ) → n < 10 → IsOneLine ((48 + n) ∷ [])
digit n small = more (48 + n) [] (omega arith) (omega arith) none

-- a decimal number
pub decimal_printed : (n : ℕ) → n < 2 ^ 64 → IsOneLine (decimal n)
decimal_printed n small =
    let P : ℕ → List ℕ → Type 0 = λ _ ds. IsOneLine ds in
    decimal_by_steps P (λ k low. digit k low)
    (λ k ds high front. joined ds ((48 + k % 10) ∷ []) front (digit (k % 10) (omega arith))) n small

-- a colon and a space
colon_space : IsOneLine (codes ": ")
colon_space = more 58 (codes " ") (omega arith) (omega arith) (space [] none)

-- a path alone
pub path_printed : (path : List ℕ) → IsOneLine (location path None)
path_printed path = joined (printable path) (codes ": ") (one_line path) colon_space

-- a path with line and column
pub location_printed : (path : List ℕ) (x : Excerpt) → x.line < 2 ^ 64 → x.column < 2 ^ 64
    → IsOneLine (location path (Some x))
location_printed path x line column =
    let colon : IsOneLine (codes ":") = more 58 [] (omega arith) (omega arith) none in
    let a = joined (printable path) (codes ":") (one_line path) colon in
    let b = joined (printable path ++ codes ":") (decimal x.line) a (decimal_printed x.line line) in
    let d = joined (printable path ++ codes ":" ++ decimal x.line) (codes ":") b colon in
    let e = joined (printable path ++ codes ":" ++ decimal x.line ++ codes ":") (decimal x.column) d
    (decimal_printed x.column column) in
    joined (printable path ++ codes ":" ++ decimal x.line ++ codes ":" ++ decimal x.column) (codes ": ") e colon_space

-- what is under an octet, by the tests that choose it
pad_by : (two six one : Bool) → IsOneLine (cond two (codes "  ") (cond six (codes "      ") (cond one (codes " ") [])))
pad_by true six one = two_spaces [] none
pad_by false true one = two_spaces (codes "    ") four_spaces
pad_by false false true = space [] none
pad_by false false false = none

pads_printed : (text : List ℕ) → IsOneLine (flat_map pad text)
pads_printed [] = none
pads_printed (b ∷ bs) =
    joined (pad b) (flat_map pad bs)
    (pad_by (b == 9 || b == 10 || b == 13) (nat_lt b 32 || b == 127) (is_first_octet b)) (pads_printed bs)

carets_printed : (n : ℕ) → IsOneLine (carets n)
carets_printed zero = none
carets_printed (suc n) = more 94 (carets n) (omega arith) (omega arith) (carets_printed n)

-- no line
no_lines : ArePrintedLines []
no_lines = record { lines = []; printed = All-nil IsOneLine; text_is = refl }

-- a line
one_more : (line text : List ℕ) → IsOneLine line → ArePrintedLines text → ArePrintedLines (line ++ 10 ∷ text)
one_more line text h k = record {
  lines = line ∷ k.lines;
  printed = All-cons IsOneLine line k.lines h k.printed;
  text_is = ap (λ rest. line ++ 10 ∷ rest) k.text_is ∙ sym (append_assoc line (10 ∷ []) (ended k.lines));
}

joined_lines : (a b : List ℕ) → ArePrintedLines a → ArePrintedLines b → ArePrintedLines (a ++ b)
joined_lines a b p q = record {
  lines = p.lines ++ q.lines;
  printed = All-append IsOneLine p.lines q.lines p.printed q.printed;
  text_is =
      ap (λ text. text ++ b) p.text_is ∙ ap (λ text. ended p.lines ++ text) q.text_is
      ∙ sym (flat_map-append (λ line. line ++ 10 ∷ []) p.lines q.lines);
}

regroup : (a b c d e : List ℕ) → a ++ b ++ c ++ d ++ e ≡ a ++ (b ++ c ++ d ++ e)
regroup a b c d e = simp append_assoc

-- a line of the file with carets under it
underlined_lines : (text : List ℕ) (column width : ℕ) → ArePrintedLines (underlined text column width)
underlined_lines [] column width = no_lines
underlined_lines (b ∷ bs) column width =
    let under = flat_map pad (take (column - 1) (b ∷ bs)) in
    let under_printed = joined (codes "    ") under four_spaces (pads_printed (take (column - 1) (b ∷ bs))) in
    let last_printed = joined (codes "    " ++ under) (carets width) under_printed (carets_printed width) in
    let last = one_more (codes "    " ++ under ++ carets width) [] last_printed no_lines in
    let first_printed = joined (codes "    ") (printable (b ∷ bs)) four_spaces (one_line (b ∷ bs)) in
    let both = one_more (codes "    " ++ printable (b ∷ bs)) (codes "    " ++ under ++ carets width ++ 10 ∷ [])
    first_printed last in
    subst ArePrintedLines
    (sym (regroup (codes "    " ++ printable (b ∷ bs)) (10 ∷ codes "    ") under (carets width) (10 ∷ []))) both

excerpt_lines : (excerpt : Option Excerpt) → ArePrintedLines (option_map_or excerpt_text excerpt [])
excerpt_lines None = no_lines
excerpt_lines (Some x) = underlined_lines (string_bytes x.text) x.column x.width

hint_printed : IsOneLine (codes "hint: ")
hint_printed =
    more 104 (codes "int: ") (omega arith) (omega arith) (more 105 (codes "nt: ") (omega arith) (omega arith)
    (more 110 (codes "t: ") (omega arith) (omega arith)
    (more 116 (codes ": ") (omega arith) (omega arith) colon_space)))

hint_lines : {X : Type 0} (bytes : X → List ℕ) (hint : Option X)
    → ArePrintedLines (option_map_or (λ h. hint_line (bytes h)) hint [])
hint_lines bytes None = no_lines
hint_lines bytes (Some h) =
    one_more (codes "hint: " ++ printable (bytes h)) []
    (joined (codes "hint: ") (printable (bytes h)) hint_printed (one_line (bytes h))) no_lines

-- an error whose first line begins without control characters
pub diagnostic_lines : (path : List ℕ) (d : Diagnostic) → IsOneLine (location path d.excerpt)
    → ArePrintedLines (diagnostic_text path d)
diagnostic_lines path d h =
    let message = printable (string_bytes d.message) in
    let first = joined (location path d.excerpt) message h (one_line (string_bytes d.message)) in
    joined_lines (location path d.excerpt ++ message ++ 10 ∷ option_map_or excerpt_text d.excerpt [])
    (option_map_or (λ hint. hint_line (string_bytes hint)) d.hint [])
    (one_more (location path d.excerpt ++ message) (option_map_or excerpt_text d.excerpt []) first
    (excerpt_lines d.excerpt))
    (hint_lines string_bytes d.hint)
