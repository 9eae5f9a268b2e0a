-- A text denotes at most one address.
use Rattle.std.proofs.Common.{◌≡◌, ℕ, ◌+◌, ◌*◌, ◌/◌, ◌%◌, List, arith}
use Rattle.std.specs.Prelude.{slice_index}
use Rattle.pb_frame.specs.Frames.{is_group}
use Rattle.pb_frame.specs.Hex.{IsPair, IsMacText}

one_octet : (h l b c : ℕ) → IsPair h l b → IsPair h l c → b ≡ c
one_octet h l b c p q =
    let high : b / 16 ≡ c / 16 = cc in
    let low : b % 16 ≡ c % 16 = cc in
    omega arith

pub one_group : (text m n : List ℕ) → IsMacText text m → IsMacText text n → is_group m ≡ is_group n
one_group text m n p q =
    let e : slice_index m 0 ≡ slice_index n 0 = one_octet (slice_index text (3 * 0)) (slice_index text (3 * 0 + 1)) _
    _ (p.pairs 0 (omega arith)) (q.pairs 0 (omega arith)) in
    rw e
