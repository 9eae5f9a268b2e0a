-- The results of a test bench for a finished record in which no state changed.
use Rattle.std.specs.Prelude.{◌≡◌, ℕ, Bool, List, Some, IsTrue}
use Rattle.pb_lan.specs.Counts.{IsUnhindered}
use Rattle.pb_lan.specs.Laws.{IsReached, IsDelivered, NoPortIsSet}
use Rattle.pb_lan.specs.Numbering.{numbered}
use Rattle.pb_lan.specs.Ports.{vid_at}
use Rattle.pb_lan.specs.Records.{IsLawfulRecord}
use Rattle.pb_lan.specs.Rules.{Rules}
use Rattle.pb_lan.specs.Shapes.{start_shape}
use Rattle.pb_lan.specs.declared.plan.Plan.{Plan}
use Rattle.pb_lan.specs.declared.plan.Spanning.TheVariants.{Fixed}
use Rattle.pb_lan.specs.declared.plan.CustomerPlan.{CustomerPlan}
use Rattle.pb_lan.specs.declared.record.Record.{Record}
use Rattle.pb_lan.specs.declared.step.Mark.{Mark}

-- a mark of a customer port of the service that no step refused or lost
pub record IsUnhinderedOf (plan : Plan) (rec : Record) (service : ℕ) (mark : Mark) (entry : CustomerPlan) : Type 0 where
  pub planned : numbered plan.customers mark.port ≡ Some entry
  pub of_service : entry.service ≡ service
  pub unhindered : IsUnhindered plan (start_shape plan) (vid_at plan entry) rec mark

-- if the bench says so, each such mark left each other port of its tree as often as it should, if the plan gives the
-- states and no port was enabled or disabled
abbrev pub TellsAllDelivered : Plan → Record → ℕ → Bool → Type 0
TellsAllDelivered plan rec service told =
    IsTrue told → plan.spanning ≡ Fixed → NoPortIsSet rec
    → (rules : Rules) (mark : Mark) (entry : CustomerPlan) → IsLawfulRecord rules plan rec → IsUnhinderedOf plan rec service mark entry
    → (number : ℕ) (c : CustomerPlan) (path : List ℕ) → IsReached plan (start_shape plan) mark entry number c path
    → IsDelivered plan (start_shape plan) rec mark entry number c path
