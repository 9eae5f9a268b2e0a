-- The parts of the octets that are held.
use Rattle.std.proofs.Common.{◌≡◌, ℕ, ◌+◌, ◌-◌, ◌≤◌, List, ◌++◌, length, take, drop, slice_range, ap, ◌∙◌, arith}
use Rattle.std.proofs.lemmas.List.{drop-drop, length-take, length-drop, take_at}
use Rattle.std.proofs.Math.Seq.{take-add}

-- the octets of a range are its first ones, followed by the others
pub parted : (xs : List ℕ) (s e n : ℕ) → s + n ≤ e → slice_range xs s e ≡ take n (drop s xs) ++ slice_range xs (s + n) e
parted xs s e n h =
    let split : e - s ≡ n + (e - (s + n)) = omega arith in
    ap (λ k. take k (drop s xs)) split ∙ take-add n (e - (s + n)) (drop s xs)
    ∙ ap (λ z. take n (drop s xs) ++ take (e - (s + n)) z) (drop-drop n s xs)

-- as many octets are held as the range is long
pub length_held : (xs : List ℕ) (s e : ℕ) → e ≤ length xs → length (slice_range xs s e) ≡ e - s
length_held xs s e h = simp (length-take, length-drop) (omega arith)

-- the first octets of a buffer whose front was written
pub given_front : (front rest : List ℕ) (n : ℕ) → length front ≡ n → take n (front ++ rest) ≡ front
given_front front rest n h = take_at front rest n h
