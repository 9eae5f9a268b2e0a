-- Copies of lists of queues.
use Rattle.std.proofs.Common.{◌≡◌, List, [], ◌∷◌, map, refl, Result, Ok, Err, IfOk}
use Rattle.std.specs.List.{AllZip}
use Rattle.std.specs.Result.{MatchResult}

-- if each queue has what its copy has, so have the lists of queues
pub same_queues : {A X : Type 0} (f : A → List X) (S : A → A → Type 0) → ((q w : A) → S q w → f w ≡ f q)
    → (qs ws : List A) → AllZip S qs ws → map f ws ≡ map f qs
same_queues f S same [] [] z = refl
same_queues f S same [] (w ∷ ws) z = absurd z
same_queues f S same (q ∷ qs) [] z = absurd z
same_queues f S same (q ∷ qs) (w ∷ ws) z = rw (same q w z.0, same_queues f S same qs ws z.1) refl

-- what an outcome says of a value
pub if_ok : {X Y : Type 0} (r : Result X Y) (P Q : X → Type 0) (E : Y → Type 0) → ((x : X) → P x → Q x)
    → MatchResult r P E → IfOk r Q
if_ok (Ok x) P Q E f h = f x h
if_ok (Err e) P Q E f h = tt
