-- Lemmas on printed texts: they are on one line, and those without control characters are as they were.
use Rattle.std.proofs.Common.{◌≡◌, ◌≢◌, ℕ, ◌+◌, ◌/◌, ◌%◌, ◌<◌, ◌≤◌, Bool, true, false, ◌&&◌, cond}
use Rattle.std.proofs.Common.{List, [], ◌∷◌, ◌++◌, codes, flat_map}
use Rattle.std.proofs.Common.{refl, sym, ap, subst, ◌∙◌, arith}
use Rattle.std.proofs.Math.Utf8.{encodes, scalar}
use Rattle.std.proofs.lemmas.List.Elements.{All-append, All-nil, All-cons, All-head, All-tail, All-same}
use Rattle.std.proofs.lemmas.Str.{encode_ascii, encodes-chars, chars-nil, chars-encodes, chars_past_char}
use Rattle.std.proofs.lemmas.Str.{IsUtf8-nil, IsUtf8-append, IsUtf8-encode}
use Rattle.std.proofs.lemmas.Bool.Decides.{nat_tests}
use Rattle.std.specs.Char.{is_control, encode_utf8, IsScalar}
use Rattle.std.specs.Fmt.{digit_glyph}
use Rattle.std.specs.List.{All}
use Rattle.std.specs.Prelude.{nat_lt, ◌==◌}
use Rattle.std.specs.Str.{IsUtf8, chars, all_scalars}
use Rattle.pb_frame.specs.Hex.{lower_digit}
use Rattle.pb_printable.specs.Printable.{escape, printed, printable, IsOneLine, HasNoControl}

-- the octet is no control character
abbrev pub IsPrinted : ℕ → Type 0
IsPrinted octet = (32 ≤ octet) × (octet ≢ 127)

one : (a : ℕ) → IsPrinted a → IsOneLine (a ∷ [])
one a h = All-cons IsPrinted a [] h (All-nil IsPrinted)

two : (a b : ℕ) → IsPrinted a → IsPrinted b → IsOneLine (a ∷ b ∷ [])
two a b h k = All-cons IsPrinted a (b ∷ []) h (one b k)

-- an octet from 128 on
high : (n : ℕ) → 128 ≤ n → IsPrinted n
high n h = (omega arith, λ e. omega arith)

-- a graphic character of ASCII
abbrev pub IsGraphic : ℕ → Type 0
IsGraphic c = (32 ≤ c) × (c < 127)

two_graphic : (a b : ℕ) → IsGraphic a → IsGraphic b → All IsGraphic (a ∷ b ∷ [])
two_graphic a b h k = All-cons IsGraphic a (b ∷ []) h (All-cons IsGraphic b [] k (All-nil IsGraphic))

digit_graphic : (n : ℕ) → n < 16 → IsGraphic (lower_digit n)
digit_graphic n small = (grind (arith, nat_tests), grind (arith, nat_tests))

-- the escape by the tests that choose it
escape_by : (c : ℕ) (lf cr tab : Bool) → c < 160
    → All IsGraphic (cond lf (codes "\\n") (cond cr (codes "\\r") (cond tab (codes "\\t")
    (codes "\\u00" ++ lower_digit (c / 16) ∷ lower_digit (c % 16) ∷ []))))
escape_by c true cr tab small = two_graphic 92 110 (omega arith, omega arith) (omega arith, omega arith)
escape_by c false true tab small = two_graphic 92 114 (omega arith, omega arith) (omega arith, omega arith)
escape_by c false false true small = two_graphic 92 116 (omega arith, omega arith) (omega arith, omega arith)
escape_by c false false false small =
    All-append IsGraphic (codes "\\u00") (lower_digit (c / 16) ∷ lower_digit (c % 16) ∷ [])
    (All-append IsGraphic (92 ∷ 117 ∷ []) (48 ∷ 48 ∷ [])
    (two_graphic 92 117 (omega arith, omega arith) (omega arith, omega arith))
    (two_graphic 48 48 (omega arith, omega arith) (omega arith, omega arith)))
    (two_graphic (lower_digit (c / 16)) (lower_digit (c % 16)) (digit_graphic (c / 16) (omega arith))
    (digit_graphic (c % 16) (omega arith)))

escape_graphic : (c : ℕ) → c < 160 → All IsGraphic (escape c)
escape_graphic c small = escape_by c (c == 10) (c == 13) (c == 9) small

escape_printed : (c : ℕ) → c < 160 → IsOneLine (escape c)
escape_printed c small k d within =
    let here = escape_graphic c small k d within in (here.0, λ e. omega arith)

pub control_low : (c : ℕ) → is_control c ≡ true → c < 160
control_low c e = grind (arith, nat_tests)

plain_printed : (c : ℕ) → is_control c ≡ false → IsPrinted c
plain_printed c e = (grind (arith, nat_tests), λ q. grind (arith, nat_tests))

-- the octets of a character by the tests that choose their number
encode_by : (c : ℕ) (a b d : Bool) → IsPrinted c
    → IsOneLine (cond a (c ∷ []) (cond b ((192 + c / 64) ∷ (128 + c % 64) ∷ [])
    (cond d ((224 + c / 4096) ∷ (128 + c / 64 % 64) ∷ (128 + c % 64) ∷ [])
    ((240 + c / 262144) ∷ (128 + c / 4096 % 64) ∷ (128 + c / 64 % 64) ∷ (128 + c % 64) ∷ []))))
encode_by c true b d h = one c h
encode_by c false true d h = two (192 + c / 64) (128 + c % 64) (high _ (omega arith)) (high _ (omega arith))
encode_by c false false true h =
    All-cons IsPrinted (224 + c / 4096) ((128 + c / 64 % 64) ∷ (128 + c % 64) ∷ []) (high _ (omega arith))
    (two (128 + c / 64 % 64) (128 + c % 64) (high _ (omega arith)) (high _ (omega arith)))
encode_by c false false false h =
    All-cons IsPrinted (240 + c / 262144) ((128 + c / 4096 % 64) ∷ (128 + c / 64 % 64) ∷ (128 + c % 64) ∷ [])
    (high _ (omega arith))
    (All-cons IsPrinted (128 + c / 4096 % 64) ((128 + c / 64 % 64) ∷ (128 + c % 64) ∷ []) (high _ (omega arith))
    (two (128 + c / 64 % 64) (128 + c % 64) (high _ (omega arith)) (high _ (omega arith))))

encode_printed : (c : ℕ) → IsPrinted c → IsOneLine (encode_utf8 c)
unfolding encode_utf8
encode_printed c h = encode_by c (nat_lt c 128) (nat_lt c 2048) (nat_lt c 65536) h

-- a printed character by the test that chooses its form
printed_by : (c : ℕ) (control : Bool) → is_control c ≡ control
    → IsOneLine (cond control (escape c) (encode_utf8 c))
printed_by c true e = escape_printed c (control_low c e)
printed_by c false e = encode_printed c (plain_printed c e)

-- printed characters are on one line
characters_printed : (cs : List ℕ) → IsOneLine (flat_map printed cs)
characters_printed [] = All-nil IsPrinted
characters_printed (c ∷ cs) =
    All-append IsPrinted (printed c) (flat_map printed cs) (printed_by c (is_control c) refl) (characters_printed cs)

-- a printed text has no control octet
pub one_line : (text : List ℕ) → IsOneLine (printable text)
unfolding printable
one_line text = characters_printed (chars text)

-- no control character
abbrev pub IsShown : ℕ → Type 0
IsShown c = is_control c ≡ false

-- a text that begins with a character that is no control character
shown_more : (c : ℕ) (rest : List ℕ) → IsScalar c → IsShown c → IsUtf8 rest → All IsShown (chars rest)
    → IsUtf8 (encode_utf8 c ++ rest) × All IsShown (chars (encode_utf8 c ++ rest))
shown_more c rest valid shown utf8 all =
    let whole = IsUtf8-append (encode_utf8 c) rest (IsUtf8-encode c valid) utf8 in (
      whole,
      All-same IsShown (chars (encode_utf8 c ++ rest)) (c ∷ chars rest)
          (chars_past_char (encode_utf8 c ++ rest) rest c whole refl) (All-cons IsShown c (chars rest) shown all),
    )

low_scalar : (c : ℕ) → c < 128 → IsScalar c
low_scalar c small = grind (arith, nat_tests)

low_shown : (c : ℕ) → 32 ≤ c → c < 127 → IsShown c
low_shown c from below = grind (arith, nat_tests)

-- a text that begins with graphic characters of ASCII
shown_front : (front rest : List ℕ) → All IsGraphic front → IsUtf8 rest → All IsShown (chars rest)
    → IsUtf8 (front ++ rest) × All IsShown (chars (front ++ rest))
shown_front [] rest graphic utf8 all = (utf8, all)
shown_front (c ∷ front) rest graphic utf8 all =
    let here = All-head IsGraphic c front graphic in
    let there = shown_front front rest (All-tail IsGraphic c front graphic) utf8 all in
    let below : c < 128 = omega arith in
    let both = shown_more c (front ++ rest) (low_scalar c below) (low_shown c here.0 here.1) there.0 there.1 in
    subst (λ b. IsUtf8 (b ++ (front ++ rest)) × All IsShown (chars (b ++ (front ++ rest)))) (encode_ascii c below) both

-- one printed character by the test that chooses its form
shown_by : (c : ℕ) (control : Bool) (rest : List ℕ) → is_control c ≡ control → IsScalar c → IsUtf8 rest
    → All IsShown (chars rest)
    → IsUtf8 (cond control (escape c) (encode_utf8 c) ++ rest)
    × All IsShown (chars (cond control (escape c) (encode_utf8 c) ++ rest))
shown_by c true rest e valid utf8 all = shown_front (escape c) rest (escape_graphic c (control_low c e)) utf8 all
shown_by c false rest e valid utf8 all = shown_more c rest valid e utf8 all

scalars_parts : (a b : Bool) → (a && b) ≡ true → (a ≡ true) × (b ≡ true)
scalars_parts true b e = (refl, e)
scalars_parts false b e = cc

-- printed characters are shown
characters_shown : (cs : List ℕ) → all_scalars cs ≡ true
    → IsUtf8 (flat_map printed cs) × All IsShown (chars (flat_map printed cs))
characters_shown [] e = (IsUtf8-nil, All-same IsShown (chars []) [] chars-nil (All-nil IsShown))
characters_shown (c ∷ cs) e =
    let parts = scalars_parts (scalar c) (all_scalars cs) e in
    let there = characters_shown cs parts.1 in
    shown_by c (is_control c) (flat_map printed cs) refl parts.0 there.0 there.1

-- the characters of a text
scalars_chars : (text : List ℕ) → IsUtf8 text → all_scalars (chars text) ≡ true
scalars_chars text utf8 =
    let same : chars text ≡ utf8.0 = ap chars (sym utf8.1.1) ∙ chars-encodes utf8.0 utf8.1.0 in
    ap all_scalars same ∙ utf8.1.0

-- a printed text has no control character
pub no_control : (text : List ℕ) → IsUtf8 text → HasNoControl (printable text)
unfolding printable
no_control text utf8 = (characters_shown (chars text) (scalars_chars text utf8)).1

-- a character that is no control character is printed as it is
plain_kept : (c : ℕ) → is_control c ≡ false → printed c ≡ encode_utf8 c
plain_kept c e = ap (λ b. cond b (escape c) (encode_utf8 c)) e

characters_kept : (cs : List ℕ) → All IsShown cs → flat_map printed cs ≡ encodes cs
characters_kept [] plain = refl
characters_kept (c ∷ cs) plain =
    let here : printed c ≡ encode_utf8 c = plain_kept c (All-head IsShown c cs plain) in
    let there : flat_map printed cs ≡ encodes cs = characters_kept cs (All-tail IsShown c cs plain) in
    ap (λ z. z ++ flat_map printed cs) here ∙ ap (λ z. encode_utf8 c ++ z) there

pub other_kept : (text : List ℕ) → IsUtf8 text → HasNoControl text → printable text ≡ text
unfolding printable
other_kept text utf8 plain = characters_kept (chars text) plain ∙ encodes-chars text utf8

-- the digit that std writes
same_digit : (n : ℕ) → digit_glyph false n ≡ lower_digit n
same_digit n = grind (arith, nat_tests)

escape_tests : (c : ℕ) (lf cr tab : Bool) (digits : List ℕ) → lf ≡ false → cr ≡ false → tab ≡ false
    → cond lf (codes "\\n") (cond cr (codes "\\r") (cond tab (codes "\\t") digits)) ≡ digits
escape_tests c true cr tab digits a b d = cc
escape_tests c false true tab digits a b d = cc
escape_tests c false false true digits a b d = cc
escape_tests c false false false digits a b d = refl

-- the escape of every other control character
escape_other : (c : ℕ) → c ≢ 10 → c ≢ 13 → c ≢ 9
    → escape c ≡ codes "\\u00" ++ lower_digit (c / 16) ∷ lower_digit (c % 16) ∷ []
escape_other c lf cr tab =
    escape_tests c (c == 10) (c == 13) (c == 9) (codes "\\u00" ++ lower_digit (c / 16) ∷ lower_digit (c % 16) ∷ [])
    (grind (arith, nat_tests)) (grind (arith, nat_tests)) (grind (arith, nat_tests))

-- the digits that std writes of every other control character are those of its escape
pub escape_written : (c : ℕ) → c ≢ 10 → c ≢ 13 → c ≢ 9
    → codes "\\u00" ++ digit_glyph false (c / 16) ∷ digit_glyph false (c % 16) ∷ [] ≡ escape c
escape_written c lf cr tab =
    let first = ap (λ d. codes "\\u00" ++ d ∷ digit_glyph false (c % 16) ∷ []) (same_digit (c / 16)) in
    let second = ap (λ d. codes "\\u00" ++ lower_digit (c / 16) ∷ d ∷ []) (same_digit (c % 16)) in
    first ∙ second ∙ sym (escape_other c lf cr tab)
