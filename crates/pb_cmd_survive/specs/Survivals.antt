-- The text that `survive` prints for a plan file.
use Rattle.std.specs.Prelude.{◌≡◌, ◌==◌, ◌⊎◌, ◌&&◌, ◌++◌, ℕ, Bool, List, [], true, false, not, length, if◌then◌else◌}
use Rattle.std.specs.Global.{Global}
use Rattle.std.specs.declared.string.String.{String}
use Rattle.pb_converge.specs.Falls.{IsRefused}
use Rattle.pb_converge.specs.declared.falling.DownFault.{DownFault}
use Rattle.pb_lan.specs.declared.plan.Plan.{Plan}
use Rattle.pb_report.specs.Refusals.{IsRefusalText}
use Rattle.pb_service.specs.PlanFiles.{Tells, IsPlanOf}
use Rattle.pb_service.specs.declared.port_spec.PortSpec.{PortSpec}
use Rattle.pb_cmd_survive.specs.Failures.{all_failures}
use Rattle.pb_cmd_survive.specs.Impacts.{IsImpact, AreImpacts}
use Rattle.pb_cmd_survive.specs.Reports.{report_text, downs_line}
use Rattle.pb_cmd_survive.specs.Scopes.{services_of, from_of, is_found, no_such_line}
use Rattle.pb_cmd_survive.specs.AcceptedTexts.{accept_tables}
use Rattle.pb_cmd_survive.specs.Judgements.{survives, are_current}
use Rattle.pb_cmd_survive.specs.declared.criteria.Criteria.{Criteria}
use Rattle.pb_cmd_survive.specs.declared.end.SurviveEnd.{SurviveEnd}
use Rattle.pb_cmd_survive.specs.declared.end.SurviveEnd.TheVariants.{Survives, Parted, Lacking, Refused, NoDown}
use Rattle.pb_cmd_survive.specs.declared.failure.Failure.TheVariants.{Nothing}
use Rattle.pb_cmd_survive.specs.declared.impact.Impact.{Impact}
use Rattle.pb_cmd_survive.specs.declared.standing.Standing.{Standing}
use Rattle.pb_cmd_survive.specs.declared.survive.Asked.{Asked}

-- the most events besides ticks until convergence
abbrev pub most_events : ℕ
most_events = 1000000000

-- how the command ends if the network passes or not
abbrev pub end_of : Bool → SurviveEnd
end_of passed = if passed then Survives else Parted

-- the network passes: it survives, and no acceptance is stale if that is asked for
abbrev pub passes : Plan → Asked → Criteria → Impact → List Impact → Bool
passes plan asked criteria base impacts =
    survives criteria asked.accepted.now base impacts && are_current plan criteria asked.strict asked.accepted.now base impacts

-- the report, or in its place the tables that accept what was found
abbrev pub said_text : Plan → Asked → Criteria → Impact → List Impact → List ℕ
said_text plan asked criteria base impacts =
    if asked.as_tables then accept_tables plan criteria base impacts
    else downs_line asked.downs.now ++ report_text plan criteria asked.accepted.now base impacts

-- what counts as disconnected and which failures are reported, by the options
abbrev pub criteria_of : Plan → Asked → Criteria
criteria_of plan asked = record {
  from = from_of plan asked.scope;
  own = asked.own;
  all = asked.all;
  impaired = not (length asked.downs.now == 0);
}

-- The report on a network in which what the names disable is down, driven within these limits: with nothing more down,
-- and under each requested failure.
pub record IsReportWith (plan : Plan) (names : List (String Global)) (ticks events : ℕ) (asked : Asked) (end : SurviveEnd) (text : List ℕ) : Type 0 where
  pub base : Impact
  pub is_base : IsImpact plan names (services_of plan asked.scope) ticks events Nothing base
  pub impacts : List Impact
  pub are_impacts : AreImpacts plan names (services_of plan asked.scope) ticks events (all_failures plan asked.kinds) impacts
  pub text_is : text ≡ said_text plan asked (criteria_of plan asked) base impacts
  pub end_is : end ≡ end_of (passes plan asked (criteria_of plan asked) base impacts)

-- the report on a network that is up
abbrev pub IsReportOn : Standing → Asked → SurviveEnd → List ℕ → Type 0
IsReportOn s asked end text = IsReportWith s.plan.now s.names.now s.patience.ticks s.patience.events asked end text

-- a name of what is to be down is refused, and nothing is told
pub record IsRefusedDown (plan : Plan) (asked : Asked) (end : SurviveEnd) (text : List ℕ) : Type 0 where
  pub fault : DownFault
  pub refused : IsRefused plan asked.downs.now fault
  pub text_is : text ≡ []
  pub end_is : end ≡ NoDown fault

-- the report, or that a name is refused
pub record IsReport (plan : Plan) (asked : Asked) (end : SurviveEnd) (text : List ℕ) : Type 0 where
  pub found : is_found plan asked.scope ≡ true
  pub told : IsReportWith plan asked.downs.now asked.ticks most_events asked end text ⊎ IsRefusedDown plan asked end text

-- the plan lacks the service or port of the scope
pub record IsLacking (plan : Plan) (asked : Asked) (end : SurviveEnd) (text : List ℕ) : Type 0 where
  pub lacking : is_found plan asked.scope ≡ false
  pub text_is : text ≡ no_such_line asked.scope
  pub end_is : end ≡ Lacking

-- the text for the plan in the file
pub record IsPlanText (file : List ℕ) (asked : Asked) (end : SurviveEnd) (text : List ℕ) : Type 0 where
  pub plan : Plan
  pub specs : List PortSpec
  pub told : Tells file (λ document. IsPlanOf document plan specs)
  pub said : IsReport plan asked end text ⊎ IsLacking plan asked end text

-- the text for a file, and how the command ends
abbrev pub IsSurviveText : List ℕ → Asked → SurviveEnd → List ℕ → Type 0
IsSurviveText file asked end text = IsPlanText file asked end text ⊎ ((end ≡ Refused) × IsRefusalText file text)
