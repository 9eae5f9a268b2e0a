-- Four hexadecimal digits (used by `two_octets` of `tag.rt`).
use Rattle.std.proofs.Common.{ℕ, ◌≡◌, ◌≤◌, ◌<◌, List, [], ◌∷◌, get_or, length, arith, refl}
use Rattle.pb_frame.specs.Hex.{IsHex, IsPair}

-- two pairs of digits and nothing else are two octets
pub two_pairs : (digits : List ℕ) (high low : ℕ) → 4 ≤ length digits → length digits < 5
    → IsPair (get_or digits 0 0) (get_or digits 1 0) high → IsPair (get_or digits 2 0) (get_or digits 3 0) low
    → IsHex digits (high ∷ low ∷ [])
two_pairs [] high low least below first second = absurd (omega (arith, least))
two_pairs (a ∷ []) high low least below first second = absurd (omega (arith, least))
two_pairs (a ∷ b ∷ []) high low least below first second = absurd (omega (arith, least))
two_pairs (a ∷ b ∷ c ∷ []) high low least below first second = absurd (omega (arith, least))
two_pairs (a ∷ b ∷ c ∷ d ∷ []) high low least below first second = (first, (second, tt))
two_pairs (a ∷ b ∷ c ∷ d ∷ e ∷ rest) high low least below first second = absurd (omega (arith, below))

-- two octets have four digits
pub four_digits : (digits : List ℕ) (high low : ℕ) → IsHex digits (high ∷ low ∷ []) → length digits ≡ 4
four_digits [] high low hex = absurd hex
four_digits (a ∷ []) high low hex = absurd hex
four_digits (a ∷ b ∷ []) high low hex = absurd hex.1
four_digits (a ∷ b ∷ c ∷ []) high low hex = absurd hex.1
four_digits (a ∷ b ∷ c ∷ d ∷ []) high low hex = refl
four_digits (a ∷ b ∷ c ∷ d ∷ e ∷ []) high low hex = absurd hex.1.1
four_digits (a ∷ b ∷ c ∷ d ∷ e ∷ f ∷ rest) high low hex = absurd hex.1.1

-- the last two are the pair of the second octet
pub second_pair : (digits : List ℕ) (high low : ℕ) → IsHex digits (high ∷ low ∷ [])
    → IsPair (get_or digits 2 0) (get_or digits 3 0) low
second_pair [] high low hex = absurd hex
second_pair (a ∷ []) high low hex = absurd hex
second_pair (a ∷ b ∷ []) high low hex = absurd hex.1
second_pair (a ∷ b ∷ c ∷ []) high low hex = absurd hex.1
second_pair (a ∷ b ∷ c ∷ d ∷ rest) high low hex = hex.1.0
