-- Statements about a finished record, for test benches.
use Rattle.std.specs.Prelude.{◌≡◌, ℕ, Bool, List, [], ◌∷◌, Some, IsTrue}
use Rattle.pb_lan.specs.Counts.{IsDrained, IsHandledUnder, IsUnhindered}
use Rattle.pb_lan.specs.Laws.{IsTraced, IsReached, IsDelivered}
use Rattle.pb_lan.specs.Numbering.{numbered}
use Rattle.pb_lan.specs.Plans.{IsSound}
use Rattle.pb_lan.specs.Ports.{vid_at}
use Rattle.pb_lan.specs.Records.{IsLawfulRecord}
use Rattle.pb_lan.specs.Rules.{Rules}
use Rattle.pb_lan.specs.declared.plan.Plan.{Plan}
use Rattle.pb_lan.specs.declared.plan.CustomerPlan.{CustomerPlan}
use Rattle.pb_lan.specs.declared.record.Record.{Record}
use Rattle.pb_lan.specs.declared.shape.Shape.{Shape}
use Rattle.pb_lan.specs.declared.step.Mark.{Mark}

-- a frame of a customer port of the service was handled under the shape, and neither refused nor lost
pub record IsCarried (plan : Plan) (shape : Shape) (rec : Record) (service : ℕ) (mark : Mark) (entry : CustomerPlan) : Type 0 where
  pub planned : numbered plan.customers mark.port ≡ Some entry
  pub of_service : entry.service ≡ service
  pub handled : IsHandledUnder plan shape rec mark
  pub unhindered : IsUnhindered plan shape (vid_at plan entry) rec mark

-- if the bench reports it, each such frame left each other port of its tree as often as it should
abbrev pub TellsDelivered : Plan → Shape → Record → ℕ → Bool → Type 0
TellsDelivered plan shape rec service told =
    IsTrue told → (rules : Rules) (mark : Mark) (entry : CustomerPlan) → IsLawfulRecord rules plan rec → IsCarried plan shape rec service mark entry
    → (number : ℕ) (c : CustomerPlan) (path : List ℕ) → IsReached plan shape mark entry number c path → IsDelivered plan shape rec mark entry number c path

-- some record of a network with a link meets all conditions of the law of exact delivery
pub record CanArrive : Type 0 where
  pub rules : Rules
  pub plan : Plan
  pub shape : Shape
  pub rec : Record
  pub mark : Mark
  pub entry : CustomerPlan
  pub sound : IsSound plan
  pub lawful : IsLawfulRecord rules plan rec
  pub traced : IsTraced plan shape rec mark entry
  pub drained : IsDrained plan rec mark
  pub unhindered : IsUnhindered plan shape (vid_at plan entry) rec mark
  pub number : ℕ
  pub there : CustomerPlan
  pub link : ℕ
  pub reached : IsReached plan shape mark entry number there (link ∷ [])
