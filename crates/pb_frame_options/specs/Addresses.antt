-- Station addresses in options.
use Rattle.std.specs.Prelude.{◌≡◌, ℕ, ◌+◌, ◌*◌, ◌<◌, ◌==◌, ◌||◌, Bool, true, List, length, slice_index}
use Rattle.pb_frame.specs.Hex.{IsPair}

-- a hyphen or a colon
abbrev pub is_separator : ℕ → Bool
is_separator c = c == 45 || c == 58

-- the text is an address: six pairs of digits with hyphens or colons between them
pub record IsAddressText (text octets : List ℕ) : Type 0 where
  pub long : length text ≡ 17
  pub separators : (k : ℕ) → k < 5 → is_separator (slice_index text (3 * k + 2)) ≡ true
  pub pairs : (k : ℕ) → k < 6 → IsPair (slice_index text (3 * k)) (slice_index text (3 * k + 1)) (slice_index octets k)
