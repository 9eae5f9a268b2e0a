-- Facts of results.
use Rattle.std.proofs.Common.{Ok, Err, IfOk}
use Rattle.std.specs.declared.result.Result.{Result}

-- a fact of an Ok value gives another
pub on_value : {A E : Type 0} {P Q : A → Type 0} (r : Result A E) → IfOk r P → ((x : A) → P x → Q x) → IfOk r Q
on_value (Ok x) p f = f x p
on_value (Err e) p f = p
