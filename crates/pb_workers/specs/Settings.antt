-- The ports that a bridge enabled and disabled.
use Rattle.std.specs.Prelude.{List, [], ◌∷◌}
use Rattle.std.specs.List.{flat_map}
use Rattle.pb_lan.specs.declared.step.Step.{Step}
use Rattle.pb_lan.specs.declared.step.Step.TheVariants.{Admin}
use Rattle.pb_threads.specs.declared.gate.Wish.{Wish}

-- the wish that a setting of a port fulfils
abbrev pub setting_of : Step → List Wish
setting_of (Admin port up moved) = record { port = port; up = up } ∷ []
setting_of _ = []

-- the settings of a bridge's ports, in order, as the wishes that they fulfil
abbrev pub settings : List Step → List Wish
settings steps = flat_map setting_of steps
