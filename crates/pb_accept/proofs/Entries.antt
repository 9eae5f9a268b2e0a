-- Lists of which each item describes an acceptance.
use Rattle.std.proofs.Common.{◌≡◌, ◌<◌, ◌≤◌, List, [], ◌∷◌, ◌++◌, length, Option, Some, None, refl, ap, arith}
use Rattle.std.specs.Option.{option_map}
use Rattle.std.proofs.lemmas.List.{append_assoc}
use Rattle.toml.specs.View.{items_view}
use Rattle.toml.specs.declared.value.Value.{Value}
use Rattle.pb_lan.specs.declared.plan.Plan.{Plan}
use Rattle.pb_accept.specs.Acceptances.{pair_told}

-- one more is appended to what is done, and taken from what is left (used by `entries_told`)
pub one_more : {X : Type 0} (done : List X) (x : X) (left : Option (List X))
    → option_map (λ later. (done ++ x ∷ []) ++ later) left
    ≡ option_map (λ later. done ++ later) (option_map (λ later. x ∷ later) left)
one_more done x None = refl
one_more done x (Some later) = ap Some (append_assoc done (x ∷ []) later)

-- a list of other than two items names no pair (used by `pair_told`)
pub too_few : (plan : Plan) (vs : List Value) → length vs < 2 → None ≡ pair_told plan (items_view vs)
too_few plan [] h = refl
too_few plan (a ∷ []) h = refl
too_few plan (a ∷ b ∷ vs) h = absurd (omega arith)

pub too_many : (plan : Plan) (vs : List Value) → 3 ≤ length vs → None ≡ pair_told plan (items_view vs)
too_many plan [] h = absurd (omega arith)
too_many plan (a ∷ []) h = absurd (omega arith)
too_many plan (a ∷ b ∷ []) h = absurd (omega arith)
too_many plan (a ∷ b ∷ c ∷ vs) h = refl
