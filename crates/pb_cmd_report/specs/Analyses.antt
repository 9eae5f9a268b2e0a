-- What `survive` says of a failure, and the states of all ports then.
use Rattle.std.specs.Prelude.{◌≡◌, ℕ, List}
use Rattle.std.specs.Global.{Global}
use Rattle.std.specs.List.{AllZip}
use Rattle.std.specs.declared.string.String.{String}
use Rattle.pb_converge.specs.Enough.{HasEnoughMemory}
use Rattle.pb_converge.specs.declared.convergence.Convergence.{Convergence}
use Rattle.pb_lan.specs.LastShapes.{last_shape}
use Rattle.pb_lan.specs.Records.{IsLawfulRecord}
use Rattle.pb_lan.specs.declared.plan.Plan.{Plan}
use Rattle.pb_net.specs.Answers.{NetView}
use Rattle.pb_relay.specs.Protocol.{spanning_tree}
use Rattle.pb_cmd_survive.specs.Failures.{is_out}
use Rattle.pb_cmd_survive.specs.Impacts.{IsImpact}
use Rattle.pb_cmd_survive.specs.Survivals.{most_events}
use Rattle.pb_cmd_survive.specs.Views.{AreViews}
use Rattle.pb_cmd_survive.specs.declared.failure.Failure.{Failure}
use Rattle.pb_cmd_survive.specs.declared.standing.Patience.{Patience}
use Rattle.pb_cmd_survive.specs.declared.standing.Standing.{Standing}
use Rattle.pb_cmd_report.specs.declared.analysis.Analysis.{Analysis}

-- the limits on each convergence
abbrev pub patience_of : ℕ → Patience
patience_of ticks = record { ticks = ticks; events = most_events }

-- the impact of a failure as `survive` reports it, and the states of all ports in the network of which it speaks
pub record IsAnalysis (plan : Plan) (names : List (String Global)) (services : List ℕ) (most events : ℕ) (failure : Failure) (a : Analysis) : Type 0 where
  pub is_impact : IsImpact plan names services most events failure a.impact
  pub shape_is : a.shape ≡ last_shape plan is_impact.last.rec

-- the analysis of a failure on a network that is up
abbrev pub IsAnalysisOn : Standing → List ℕ → Failure → Analysis → Type 0
IsAnalysisOn s services failure a =
    IsAnalysis s.plan.now s.names.now services s.patience.ticks s.patience.events failure a

-- the analyses of these failures, in their order
abbrev pub AreAnalyses : Plan → List (String Global) → List ℕ → ℕ → ℕ → List Failure → List Analysis → Type 0
AreAnalyses plan names services most events failures analyses =
    AllZip (IsAnalysis plan names services most events) failures analyses

-- what is seen in a network after a failure: its ports, and its services
pub record IsSeen (plan : Plan) (names : List (String Global)) (services : List ℕ) (failure : Failure) (convergence : Convergence) (net : NetView) (a : Analysis) : Type 0 where
  pub failed : a.impact.failure ≡ failure
  pub converged : a.impact.convergence ≡ convergence
  pub lawful : IsLawfulRecord spanning_tree plan net.rec
  pub enough : HasEnoughMemory net.rec
  pub shape_is : a.shape ≡ last_shape plan net.rec
  pub views : AreViews plan (last_shape plan net.rec) (is_out plan names failure) services a.impact.views
