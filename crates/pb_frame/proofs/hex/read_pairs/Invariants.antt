use Rattle.std.proofs.Common.{◌*◌, ◌++◌, List, ℕ, take, drop}
use Rattle.pb_frame.specs.Hex.{IsHex}
use Rattle.pb_frame.proofs.hex.read_pairs.Given as goal

-- octets for the remaining digits complete the octets so far
abbrev pub invariant-loop-i : goal.invariant-loop-i
invariant-loop-i l = (more : List ℕ) → IsHex (drop (2 * l.i) l.digits) more → IsHex l.digits (take l.i l.octets ++ more)
