-- Customers' frames that enter, are copied, and leave.
use Rattle.std.specs.Prelude.{◌≡◌, ℕ, ◌+◌, Bool, List, ◌↔◌, IsTrue}
use Rattle.std.specs.List.{sum_by}
use Rattle.pb_lan.specs.Counts.{IsDrained}
use Rattle.pb_lan.specs.Plans.{IsSound}
use Rattle.pb_lan.specs.Records.{IsLawfulRecord}
use Rattle.pb_lan.specs.Rules.{Rules}
use Rattle.pb_lan.specs.declared.plan.Plan.{Plan}
use Rattle.pb_lan.specs.declared.record.Record.{Record}
use Rattle.pb_lan.specs.declared.step.Mark.{Mark}
use Rattle.pb_lan.specs.declared.step.Step.{Step}
use Rattle.pb_history.specs.Draining.{gain, loss}

-- the numbers of customers' frames that all places of a kind add
abbrev pub gains : List (List Step) → ℕ
gains places = sum_by (λ steps. sum_by gain steps) places

abbrev pub losses : List (List Step) → ℕ
losses places = sum_by (λ steps. sum_by loss steps) places

-- as many customers' frames were added as were removed
abbrev pub Balances : Record → Type 0
Balances rec = gains rec.bridges + gains rec.lanes + gains rec.customers ≡ losses rec.bridges + losses rec.lanes + losses rec.customers

-- for a lawful record of a sound plan the result is true exactly if every frame has drained
abbrev pub TellsDrained : Record → Bool → Type 0
TellsDrained rec result =
    (rules : Rules) (plan : Plan) → IsSound plan → IsLawfulRecord rules plan rec → IsTrue result ↔ ((mark : Mark) → IsDrained plan rec mark)
