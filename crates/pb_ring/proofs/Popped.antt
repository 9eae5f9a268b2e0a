-- A popped item is the first of those that were known to be there.
use Rattle.std.proofs.Common.{◌≡◌, ◌<◌, List, [], ◌∷◌, Some, Ok, Err, length, slice_get, sym, ap, ◌∙◌, arith}
use Rattle.std.specs.Prelude.{IfOk, IsOk}
use Rattle.std.specs.Result.{result_ok}
use Rattle.std.specs.declared.result.Result.{Result}
use mathlib.Core.List.{IsPrefix}

pub first_popped : {X E : Type 0} (A B : X → Type 0) (known after : List X) (r : Result X E) (item : X)
    → slice_get known 0 ≡ Some item → (0 < length known → IsOk r)
    → IfOk r (λ x. A x × IsPrefix known (x ∷ after) × B x) → result_ok r ≡ Some item
first_popped A B [] after r item is some given = cc
first_popped A B (y ∷ ys) after (Ok x) item is some given = ap (λ xs. slice_get xs 0) (sym given.1.1) ∙ is
first_popped A B (y ∷ ys) after (Err e) item is some given = let never = some (omega arith) in cc
