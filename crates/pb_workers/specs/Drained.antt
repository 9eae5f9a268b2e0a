-- The result of the check whether a run has drained.
use Rattle.std.specs.Prelude.{◌≡◌, ◌↔◌, Bool, IsTrue, List, All}
use Rattle.pb_lan.specs.Counts.{IsDrained}
use Rattle.pb_lan.specs.Plans.{IsSound}
use Rattle.pb_lan.specs.Records.{IsLawfulRecord}
use Rattle.pb_lan.specs.Rules.{Rules}
use Rattle.pb_lan.specs.declared.plan.Plan.{Plan}
use Rattle.pb_lan.specs.declared.record.Record.{Record}
use Rattle.pb_lan.specs.declared.step.Mark.{Mark}
use Rattle.pb_workers.specs.declared.access.Last.{Last}
use Rattle.pb_workers.specs.declared.access.Last.TheVariants.{End}

-- for a lawful record of a sound plan the result is true exactly if every port came to its end and every frame has
-- drained
abbrev pub TellsAllDrained : Record → List Last → Bool → Type 0
TellsAllDrained rec lasts result =
    (rules : Rules) (plan : Plan) → IsSound plan → IsLawfulRecord rules plan rec
    → IsTrue result ↔ (All (λ last. last ≡ End) lasts × ((mark : Mark) → IsDrained plan rec mark))
