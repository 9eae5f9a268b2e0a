-- What a change from one plan to another does, and the network before it.
use Rattle.std.specs.Prelude.{◌≡◌, ℕ, Bool, true, false, List, [], ◌++◌, None}
use Rattle.pb_lan.specs.declared.plan.Plan.{Plan}
use Rattle.pb_report.specs.PlanFiles.{IsToldBy}
use Rattle.pb_draw_layout.specs.declared.facts.Failures.{Failures}
use Rattle.pb_cmd_draw.specs.Draws.{IsPictureOf}
use Rattle.pb_cmd_draw.specs.declared.end.Format.TheVariants.{Svg}
use Rattle.pb_cmd_diff.specs.Diffs.{IsDiffText}
use Rattle.pb_cmd_diff.specs.declared.compared.Compared.TheVariants.{All}
use Rattle.pb_cmd_diff.specs.declared.diff.Asked.{Asked as DiffAsked}
use Rattle.pb_cmd_diff.specs.declared.end.DiffEnd.{DiffEnd}
use Rattle.pb_cmd_diff.specs.declared.end.DiffEnd.TheVariants.{Kept, Worse, Lacking, OldRefused, NewRefused}
use Rattle.pb_cmd_survive.specs.Survivals.{most_events}
use Rattle.pb_cmd_survive.specs.declared.failure.Failure.TheVariants.{Nothing}
use Rattle.pb_cmd_report.specs.Html.{escaped}
use Rattle.pb_cmd_report.specs.Analyses.{IsAnalysis}
use Rattle.pb_cmd_report.specs.declared.asked.Asked.{Asked}
use Rattle.pb_cmd_report.specs.declared.asked.OldPlan.{OldPlan}
use Rattle.pb_cmd_report.specs.declared.analysis.Analysis.{Analysis}
use Rattle.pb_cmd_report.specs.declared.texts.TheConstants.{CHANGE, AFTER_OLD_TITLE, BEFORE_OLD_PICTURE, AFTER_CHANGE}

-- nothing has failed
abbrev pub none_failed : Failures
none_failed = record { bridges = []; links = [] }

-- the picture of a network with nothing down, whose ports are in the states of this analysis
abbrev pub IsCalmPicture : Plan → Analysis → List ℕ → Type 0
IsCalmPicture plan base picture = IsPictureOf plan base.shape None none_failed false Svg picture

-- the options of `diff`: all services are compared, and failures without an effect have no line
abbrev pub comparing : Asked → DiffAsked
comparing asked = record { kinds = asked.kinds; compared = All; ticks = asked.ticks; all = false }

-- `diff` has compared the plans
abbrev pub has_compared : DiffEnd → Bool
has_compared Kept = true
has_compared Worse = true
has_compared Lacking = false
has_compared OldRefused = false
has_compared NewRefused = false

-- what `diff` prints for two plan files
pub record IsSaid (old_file file : List ℕ) (asked : Asked) (said : List ℕ) : Type 0 where
  pub end : DiffEnd
  pub compared : has_compared end ≡ true
  pub diff : IsDiffText old_file file (comparing asked) end said

-- the title of the old plan, and what `diff` prints
unfoldable pub said_text : List ℕ → List ℕ → List ℕ
said_text title said = CHANGE.now ++ escaped title ++ AFTER_OLD_TITLE.now ++ escaped said ++ BEFORE_OLD_PICTURE.now

-- those, and the picture of the old network
abbrev pub change_text : List ℕ → List ℕ → List ℕ → List ℕ
change_text title said picture = said_text title said ++ picture ++ AFTER_CHANGE.now

-- the text about a change of which `diff` says this, with the picture of the old network with nothing down
pub record IsChangeText (plan : Plan) (title said : List ℕ) (ticks : ℕ) (text : List ℕ) : Type 0 where
  pub base : Analysis
  pub is_base : IsAnalysis plan [] [] ticks most_events Nothing base
  pub picture : List ℕ
  pub is_picture : IsCalmPicture plan base picture
  pub text_is : text ≡ change_text title said picture

-- the text about the change from the plan in an old file to that in a file
pub record IsChange (old : OldPlan) (file : List ℕ) (asked : Asked) (text : List ℕ) : Type 0 where
  pub said : List ℕ
  pub is_said : IsSaid old.file.now file asked said
  pub plan : Plan
  pub told : IsToldBy old.file.now plan
  pub change : IsChangeText plan old.title.now said asked.ticks text
