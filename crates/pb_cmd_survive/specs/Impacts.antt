-- The impact of a failure.
use Rattle.std.specs.Prelude.{◌≡◌, ℕ, List, Result, Ok, Err}
use Rattle.std.specs.Global.{Global}
use Rattle.std.specs.declared.string.String.{String}
use Rattle.std.specs.List.{AllZip}
use Rattle.pb_converge.specs.Enough.{HasEnoughMemory}
use Rattle.pb_converge.specs.Falls.{HaveFallen, IsRefused}
use Rattle.pb_lan.specs.LastShapes.{last_shape}
use Rattle.pb_lan.specs.Plans.{IsSound}
use Rattle.pb_lan.specs.Records.{IsLawfulRecord}
use Rattle.pb_lan.specs.declared.plan.Plan.{Plan}
use Rattle.pb_net.specs.Answers.{NetView, HaveRun}
use Rattle.pb_relay.specs.Protocol.{spanning_tree}
use Rattle.pb_converge.specs.Drives.{EndsAs, HasStood}
use Rattle.pb_converge.specs.declared.falling.DownFault.{DownFault}
use Rattle.pb_converge.specs.declared.convergence.Convergence.{Convergence}
use Rattle.pb_cmd_survive.specs.Failures.{downs, is_out}
use Rattle.pb_cmd_survive.specs.Views.{AreViews}
use Rattle.pb_cmd_survive.specs.declared.failure.Failure.{Failure}
use Rattle.pb_cmd_survive.specs.declared.failure.Failure.TheVariants.{Nothing, Link, Pair, Bridge}
use Rattle.pb_cmd_survive.specs.declared.impact.Impact.{Impact}
use Rattle.pb_cmd_survive.specs.declared.standing.Patience.{Patience}
use Rattle.pb_cmd_survive.specs.declared.standing.Standing.{Standing}

-- what the names disable is disabled, nothing else, and the bridges converge
pub record IsCalm (plan : Plan) (names : List (String Global)) (most events : ℕ) (convergence : Convergence) (new : NetView) : Type 0 where
  pub fallen : NetView
  pub falls : HaveFallen plan names fallen
  pub converges : EndsAs most events convergence fallen new

-- the ticks of each bridge for which a network has been up before anything fails
abbrev pub standing : ℕ
standing = 60

-- a network as it was when its bridges had converged, and as it is after it has been up for a while
pub record IsStanding (s : Standing) : Type 0 where
  pub sound : IsSound s.plan.now
  pub is_calm : IsCalm s.plan.now s.names.now s.patience.ticks s.patience.events s.convergence s.calm
  pub stands : HasStood s.plan.now.spanning standing s.patience.events s.calm s.up
  pub calm_plan : s.calm.plan ≡ s.plan.now
  pub up_plan : s.up.plan ≡ s.plan.now

-- the network of a plan has been brought up, or a name is refused
abbrev pub Raises : Plan → List (String Global) → Patience → Result Standing DownFault → Type 0
Raises plan names patience (Ok s) = (s.plan.now ≡ plan) × (s.names.now ≡ names) × (s.patience ≡ patience) × IsStanding s
Raises plan names patience (Err fault) = IsRefused plan names fault

-- both ends of each link that fails are disabled, and the bridges converge again
pub record HasFailedFrom (plan : Plan) (most events : ℕ) (failure : Failure) (stood : NetView) (convergence : Convergence) (new : NetView) : Type 0 where
  pub down : NetView
  pub set_down : HaveRun stood (downs plan failure) down
  pub converges : EndsAs most events convergence down new

-- the bridges converge, go on for a while, and converge again after the failure
pub record IsFailed (plan : Plan) (names : List (String Global)) (most events : ℕ) (failure : Failure) (convergence : Convergence) (new : NetView) : Type 0 where
  pub first : Convergence
  pub calm : NetView
  pub is_calm : IsCalm plan names most events first calm
  pub stood : NetView
  pub stands : HasStood plan.spanning standing events calm stood
  pub fails : HasFailedFrom plan most events failure stood convergence new

-- the network was driven into the failure, or only to convergence if nothing fails
abbrev pub IsDriven : Plan → List (String Global) → ℕ → ℕ → Failure → Convergence → NetView → Type 0
IsDriven plan names most events Nothing convergence new = IsCalm plan names most events convergence new
IsDriven plan names most events (Link number) convergence new = IsFailed plan names most events (Link number) convergence new
IsDriven plan names most events (Pair first second) convergence new = IsFailed plan names most events (Pair first second) convergence new
IsDriven plan names most events (Bridge number) convergence new = IsFailed plan names most events (Bridge number) convergence new

-- The impact of a failure is that of the last shape of a lawful record of the plan's network, in which what the names
-- disable was down before, and which was driven into it. A customer port at a bridge that is out, because it fails or a
-- name is its name, reaches itself alone. No allocation failed in the record.
pub record IsImpact (plan : Plan) (names : List (String Global)) (services : List ℕ) (most events : ℕ) (failure : Failure) (impact : Impact) : Type 0 where
  pub failed : impact.failure ≡ failure
  pub last : NetView
  pub driven : IsDriven plan names most events failure impact.convergence last
  pub planned : last.plan ≡ plan
  pub lawful : IsLawfulRecord spanning_tree plan last.rec
  pub enough : HasEnoughMemory last.rec
  pub views : AreViews plan (last_shape plan last.rec) (is_out plan names failure) services impact.views

-- the impact of a failure on a network that is up
abbrev pub IsImpactOn : Standing → List ℕ → Failure → Impact → Type 0
IsImpactOn s services failure impact =
    IsImpact s.plan.now s.names.now services s.patience.ticks s.patience.events failure impact

-- the impacts of these failures, in their order
abbrev pub AreImpacts : Plan → List (String Global) → List ℕ → ℕ → ℕ → List Failure → List Impact → Type 0
AreImpacts plan names services most events failures impacts =
    AllZip (IsImpact plan names services most events) failures impacts
