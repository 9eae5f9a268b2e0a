use Rattle.std.proofs.Common.{◌≡◌, ◌∷◌, ◌++◌, drop, flat_map, string_bytes}
use Rattle.std.specs.Fmt.{decimal}
use Rattle.pb_plan_diff.proofs.texts.losses_text.Given as goal

abbrev pub invariant-loop-number : goal.invariant-loop-number
invariant-loop-number l =
    string_bytes l.text ++ flat_map (λ n. 32 ∷ decimal n) (drop l.number-index l.losses)
    ≡ string_bytes l.initial.text ++ flat_map (λ n. 32 ∷ decimal n) l.losses
