-- Hexadecimal texts (used by `hex_of` and `bare_hex`).
use Rattle.std.proofs.Common.{◌≡◌, ℕ, suc, ◌<◌, ◌/◌, ◌%◌, List, [], ◌∷◌, ◌++◌, length, get_or, refl, sym, ap, ◌∙◌}
use Rattle.std.proofs.Common.{arith, map}
use Rattle.std.specs.List.{range_with_len}
use Rattle.std.proofs.lemmas.List.FromFn.{get_or-map-range_with_len}
use Rattle.hex.specs.Hex.{lower_digits, encode_lower, encode_with}
use Rattle.pb_frame.specs.Hex.{hex_text, lower_digit}

same_digits : map (λ n. get_or lower_digits n 0) (range_with_len 0 16) ≡ map lower_digit (range_with_len 0 16)
same_digits = refl

-- the digit of the crate hex is that of the definition
same_digit : (n : ℕ) → n < 16 → get_or lower_digits n 0 ≡ lower_digit n
same_digit n h =
    sym (get_or-map-range_with_len (λ m. get_or lower_digits m 0) 0 16 n n 0 h (omega arith))
    ∙ ap (λ z. get_or z n 0) same_digits
    ∙ get_or-map-range_with_len lower_digit 0 16 n n 0 h (omega arith)

pub same_text : (octets : List ℕ) → ((k : ℕ) → k < length octets → get_or octets k 0 < 256)
    → encode_lower octets ≡ hex_text octets
unfolding encode_with
same_text [] fits = refl
same_text (b ∷ octets) fits =
    let fit : b < 256 = fits 0 (omega arith) in
    let high = same_digit (b / 16) (omega arith) in
    let low = same_digit (b % 16) (omega arith) in
    let rest = same_text octets (λ k h. fits (suc k) (omega arith)) in
    rw (high, low, rest) refl

pub hex_text-append : (xs ys : List ℕ) → hex_text (xs ++ ys) ≡ hex_text xs ++ hex_text ys
hex_text-append [] ys = refl
hex_text-append (b ∷ xs) ys = ap (λ z. lower_digit (b / 16) ∷ lower_digit (b % 16) ∷ z) (hex_text-append xs ys)
