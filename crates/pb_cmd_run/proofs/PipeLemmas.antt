-- Where records end in the octets of a capture (used by the functions of `pipe.rt`).
use Rattle.std.proofs.Common.{◌≡◌, ◌+◌, ℕ, suc, List, drop, ap, sym, ◌∙◌, arith}
use Rattle.pb_cmd_run.specs.Pipes.{record_length, records_end}

-- after so many records one more ends where its octets do
pub next_end : (octets : List ℕ) (left end length n : ℕ) → end ≡ records_end n octets left
    → length ≡ record_length (drop end octets) → end + length ≡ records_end (suc n) octets left
next_end octets left end length n e f =
    ap (λ k. end + k) f ∙ ap (λ k. k + record_length (drop k octets)) e

-- the first record, if nothing remains of what was begun
pub first_end : (octets : List ℕ) (left length : ℕ) → left ≡ 0 → length ≡ record_length octets
    → length ≡ records_end 1 octets left
first_end octets left length e f = f ∙ ap (λ k. record_length (drop k octets)) (sym e) ∙ omega (arith, e)
