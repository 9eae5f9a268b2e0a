-- The length of a list of steps with one more step.
use Rattle.std.proofs.Common.{◌≡◌, ◌+◌, List, [], ◌∷◌, ◌++◌, length, ap, ◌∙◌}
use Rattle.std.proofs.Common.{length-append}
use Rattle.std.specs.List.{flat_map}
use Rattle.pb_frame.proofs.Things.{flat_map-more}
use Rattle.pb_lan.specs.declared.step.Step.{Step}

pub length-more : {X : Type 0} (f : Step → List X) (steps : List Step) (step : Step)
    → length (flat_map f (steps ++ step ∷ [])) ≡ length (flat_map f steps) + length (f step)
length-more f steps step = ap length (flat_map-more f steps step) ∙ length-append (flat_map f steps) (f step)
