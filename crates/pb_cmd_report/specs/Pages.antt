-- The page, and when it is the report on a plan.
use Rattle.std.specs.Prelude.{◌≡◌, ◌⊎◌, ℕ, List, [], ◌∷◌, ◌++◌, Some, None, not, codes, flat_map, length, count_by}
use Rattle.std.specs.Fmt.{decimal}
use Rattle.std.specs.Global.{Global}
use Rattle.std.specs.declared.option.Option.{Option}
use Rattle.std.specs.declared.string.String.{String}
use Rattle.pb_lan.specs.Numbering.{numbers_from}
use Rattle.pb_lan.specs.declared.plan.Plan.{Plan}
use Rattle.pb_lan.specs.declared.plan.Spanning.{Spanning}
use Rattle.pb_lan.specs.declared.plan.Spanning.TheVariants.{Fixed, Rstp}
use Rattle.pb_net.specs.Answers.{NetView}
use Rattle.pb_converge.specs.declared.convergence.Convergence.{Convergence}
use Rattle.pb_report.specs.PlanFiles.{IsToldBy}
use Rattle.pb_report.specs.Refusals.{IsRefusalText}
use Rattle.pb_cmd_survive.specs.Failures.{all_failures}
use Rattle.pb_cmd_survive.specs.Impacts.{IsCalm}
use Rattle.pb_cmd_survive.specs.Survivals.{most_events}
use Rattle.pb_cmd_survive.specs.Verdicts.{is_converged, are_forests, disconnects}
use Rattle.pb_cmd_survive.specs.declared.failure.Failure.TheVariants.{Nothing}
use Rattle.pb_cmd_survive.specs.declared.standing.Standing.{Standing}
use Rattle.pb_cmd_report.specs.Changes.{IsCalmPicture, IsChange}
use Rattle.pb_cmd_report.specs.Failures.{criteria, failure_row}
use Rattle.pb_cmd_report.specs.Html.{escaped, table_of}
use Rattle.pb_cmd_report.specs.Analyses.{IsAnalysis, AreAnalyses}
use Rattle.pb_cmd_report.specs.Tables.{service_row, site_row}
use Rattle.pb_cmd_report.specs.Trees.{all_given_rows, protocol_rows}
use Rattle.pb_cmd_report.specs.declared.asked.Asked.{Asked}
use Rattle.pb_cmd_report.specs.declared.asked.OldPlan.{OldPlan}
use Rattle.pb_cmd_report.specs.declared.end.ReportEnd.{ReportEnd}
use Rattle.pb_cmd_report.specs.declared.end.ReportEnd.TheVariants.{Written, Refused, OldRefused}
use Rattle.pb_cmd_report.specs.declared.analysis.Analysis.{Analysis}
use Rattle.pb_cmd_report.specs.declared.script.TheConstants.{SCRIPT}
use Rattle.pb_cmd_report.specs.declared.style.TheConstants.{STYLE}
use Rattle.pb_cmd_report.specs.declared.texts.TheConstants.{HEAD, TITLE, AFTER_TITLE, BEFORE_PICTURE, AFTER_PICTURE, FAILURES, SERVICES, SITES, TREE, BEFORE_PLAN, AFTER_PLAN}

-- all that comes before the counts
unfoldable pub head_text : List ℕ → List ℕ
head_text title = HEAD.now ++ STYLE.now ++ TITLE.now ++ escaped title ++ AFTER_TITLE.now

-- what is counted, and its number
abbrev pub count_words : List ℕ → ℕ → List ℕ
count_words what number = what ++ decimal number

-- how many failures were analysed, and how many do which harm
abbrev pub counts_text : Analysis → List Analysis → List ℕ
counts_text base analyses =
    count_words (codes "<p id=\"counts\">Failures analysed: ") (length analyses)
    ++ count_words (codes ". With a disconnected service: ") (count_by (λ a. disconnects criteria base.impact a.impact) analyses)
    ++ count_words (codes ". With a forwarding loop: ") (count_by (λ a. not (are_forests a.impact.views)) analyses)
    ++ count_words (codes ". Without convergence: ") (count_by (λ a. not (is_converged a.impact.convergence)) analyses)
    ++ codes ".</p>\n"

-- the picture, with all that comes before it
abbrev pub top_text : List ℕ → List ℕ → Analysis → List Analysis → List ℕ
top_text title picture base analyses =
    head_text title ++ counts_text base analyses ++ BEFORE_PICTURE.now ++ picture ++ AFTER_PICTURE.now

-- the failures, the first of which is that nothing is down
abbrev pub failures_table : Plan → Analysis → List Analysis → List ℕ
failures_table plan base analyses = table_of FAILURES.now (flat_map (failure_row plan base.impact) (base ∷ analyses))

abbrev pub services_table : Plan → Analysis → List ℕ
services_table plan base = table_of SERVICES.now (flat_map (service_row plan base.shape) base.impact.views)

abbrev pub sites_table : Plan → List ℕ
sites_table plan = table_of SITES.now (flat_map (site_row plan) plan.customers)

-- the tables: each failure, each service, each site and each port of the spanning tree is a row, in order
abbrev pub tables_text : Plan → List ℕ → Analysis → List Analysis → List ℕ
tables_text plan trees base analyses =
    failures_table plan base analyses ++ services_table plan base ++ sites_table plan ++ table_of TREE.now trees

-- the text of the plan file, and the page's script
unfoldable pub source_text : List ℕ → List ℕ
source_text source = BEFORE_PLAN.now ++ escaped source ++ AFTER_PLAN.now ++ SCRIPT.now

-- the page, with a text about a change, or none
abbrev pub page_text : Plan → List ℕ → List ℕ → List ℕ → List ℕ → List ℕ → Analysis → List Analysis → List ℕ
page_text plan title source change picture trees base analyses =
    top_text title picture base analyses ++ change ++ tables_text plan trees base analyses ++ source_text source

-- the rows of the spanning tree, with nothing down
pub record AreProtocolRows (plan : Plan) (names : List (String Global)) (ticks events : ℕ) (trees : List ℕ) : Type 0 where
  pub convergence : Convergence
  pub calm : NetView
  pub is_calm : IsCalm plan names ticks events convergence calm
  pub rows : trees ≡ protocol_rows plan calm.rec

abbrev pub AreTreesBy : Spanning → Plan → List (String Global) → ℕ → ℕ → Analysis → List ℕ → Type 0
AreTreesBy Fixed plan names ticks events base trees = trees ≡ all_given_rows plan base.shape
AreTreesBy Rstp plan names ticks events base trees = AreProtocolRows plan names ticks events trees

abbrev pub AreTrees : Plan → List (String Global) → ℕ → ℕ → Analysis → List ℕ → Type 0
AreTrees plan names ticks events base trees = AreTreesBy plan.spanning plan names ticks events base trees

-- the page from the analyses of nothing and of each failure, with the picture and the spanning tree with nothing down
pub record IsPageText (plan : Plan) (names : List (String Global)) (ticks events : ℕ) (title source change : List ℕ) (base : Analysis) (analyses : List Analysis) (text : List ℕ) : Type 0 where
  pub picture : List ℕ
  pub is_picture : IsCalmPicture plan base picture
  pub trees : List ℕ
  pub are_trees : AreTrees plan names ticks events base trees
  pub text_is : text ≡ page_text plan title source change picture trees base analyses

abbrev pub IsPageTextOn : Standing → List ℕ → List ℕ → List ℕ → Analysis → List Analysis → List ℕ → Type 0
IsPageTextOn s title source change base analyses text =
    IsPageText s.plan.now s.names.now s.patience.ticks s.patience.events title source change base analyses text

-- The page on a network that is driven within these limits: what `survive` says of each failure, in order, and the
-- states of the ports then.
pub record IsPage (plan : Plan) (names : List (String Global)) (ticks events : ℕ) (source change : List ℕ) (asked : Asked) (text : List ℕ) : Type 0 where
  pub base : Analysis
  pub is_base : IsAnalysis plan names (numbers_from 1 plan.services) ticks events Nothing base
  pub analyses : List Analysis
  pub are_analyses : AreAnalyses plan names (numbers_from 1 plan.services) ticks events (all_failures plan asked.kinds) analyses
  pub page : IsPageText plan names ticks events asked.title.now source change base analyses text

abbrev pub IsPageOn : Standing → List ℕ → List ℕ → Asked → List ℕ → Type 0
IsPageOn s source change asked text =
    IsPage s.plan.now s.names.now s.patience.ticks s.patience.events source change asked text

-- the text about the change from the old plan, or none if there is no old plan
abbrev pub IsChangeFrom : Option OldPlan → List ℕ → Asked → List ℕ → Type 0
IsChangeFrom None file asked text = text ≡ []
IsChangeFrom (Some old) file asked text = IsChange old file asked text

-- the page on a plan and on the change from the old plan, if there is one
pub record IsPageFrom (before : Option OldPlan) (plan : Plan) (file : List ℕ) (asked : Asked) (end : ReportEnd) (text : List ℕ) : Type 0 where
  pub change : List ℕ
  pub is_change : IsChangeFrom before file asked change
  pub page : IsPage plan [] asked.ticks most_events file change asked text
  pub end_is : end ≡ Written

-- the rule that the old file breaks
abbrev pub IsOldRefusal : Option OldPlan → ReportEnd → List ℕ → Type 0
IsOldRefusal None end text = ⊥
IsOldRefusal (Some old) end text = (end ≡ OldRefused) × IsRefusalText old.file.now text

-- the text for a plan: the page, or the rule that the old file breaks
abbrev pub IsTextFrom : Option OldPlan → Plan → List ℕ → Asked → ReportEnd → List ℕ → Type 0
IsTextFrom before plan file asked end text = IsPageFrom before plan file asked end text ⊎ IsOldRefusal before end text

-- the text for the plan in the file
pub record IsPlanText (file : List ℕ) (asked : Asked) (end : ReportEnd) (text : List ℕ) : Type 0 where
  pub plan : Plan
  pub told : IsToldBy file plan
  pub said : IsTextFrom asked.old plan file asked end text

-- the text for a file: that for its plan, or the rule that the file breaks
abbrev pub IsReportText : List ℕ → Asked → ReportEnd → List ℕ → Type 0
IsReportText file asked end text = IsPlanText file asked end text ⊎ ((end ≡ Refused) × IsRefusalText file text)
