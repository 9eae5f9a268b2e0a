-- Texts that are appended to one another.
use Rattle.std.proofs.Common.{◌≡◌, ℕ, suc, ◌+◌, ◌-◌, ◌<◌, List, ◌∷◌, ◌++◌, flat_map, Ok, Err, OnOk, sym, ap, ◌∙◌}
use Rattle.std.proofs.Common.{arith, append_assoc}
use Rattle.std.specs.List.{range_with_len}
use Rattle.std.specs.declared.result.Result.{Result}

-- appending one more text
pub with_piece : (old mid new a b : List ℕ) → mid ≡ old ++ a → new ≡ mid ++ b → new ≡ old ++ (a ++ b)
with_piece old mid new a b e f = f ∙ ap (λ t. t ++ b) e ∙ append_assoc old a b

-- appending one more text by a call whose result is returned as it is
pub last_piece : {T E : Type 0} (r : Result T E) (old mid new a b : List ℕ) → mid ≡ old ++ a → OnOk r (new ≡ mid ++ b)
    → OnOk r (new ≡ old ++ (a ++ b))
last_piece (Ok x) old mid new a b e f = with_piece old mid new a b e f
last_piece (Err d) old mid new a b e f = f

-- the first of the remaining numbers
from_first : (first k n : ℕ) → k < n → range_with_len first (n - k) ≡ first ∷ range_with_len (first + 1) (n - (k + 1))
from_first first k n l =
    let e : n - k ≡ suc (n - (k + 1)) = omega arith in
    ap (λ m. range_with_len first m) e

-- the text of one more number, for loops that append the text of each number of a range
pub numbers_more : (f : ℕ → List ℕ) (first k n : ℕ) (old new whole : List ℕ) → k < n → new ≡ old ++ f first
    → old ++ flat_map f (range_with_len first (n - k)) ≡ whole
    → new ++ flat_map f (range_with_len (first + 1) (n - (k + 1))) ≡ whole
numbers_more f first k n old new whole l e w =
    let rest = flat_map f (range_with_len (first + 1) (n - (k + 1))) in
    ap (λ t. t ++ rest) e ∙ append_assoc old (f first) rest
    ∙ sym (ap (λ ks. old ++ flat_map f ks) (from_first first k n l)) ∙ w
