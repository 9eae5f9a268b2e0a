use Rattle.std.proofs.Common.{◌≡◌, ◌+◌, ◌*◌, ◌<◌, ℕ, true, get_or, length}
use Rattle.pb_frame.specs.Hex.{IsPair}
use Rattle.pb_frame_options.specs.Addresses.{is_separator}
use Rattle.pb_frame_options.proofs.address.address_of.Given as goal

abbrev pub invariant-loop-k : goal.invariant-loop-k
invariant-loop-k l = (j : ℕ) → j < l.k → is_separator (get_or l.digits (3 * j + 2) 0) ≡ true

abbrev pub invariant-loop-i : goal.invariant-loop-i
invariant-loop-i l = ((j : ℕ) → j < l.i → IsPair (get_or l.digits (3 * j) 0) (get_or l.digits (3 * j + 1) 0)
    (get_or l.octets j 0)) × (length l.octets ≡ 6)
