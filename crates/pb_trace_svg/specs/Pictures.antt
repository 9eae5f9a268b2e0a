-- The picture of a trace: the network, and over it each hop once, in order, with its number.
use Rattle.std.specs.Prelude.{◌≡◌, ℕ, List, ◌++◌, Option, None, flat_map}
use Rattle.std.specs.Io.KnownBytes.{Appends, Keeps}
use Rattle.pb_cmd_draw.specs.Failures.{failures_of}
use Rattle.pb_cmd_draw.specs.Svg.{svg_with}
use Rattle.pb_cmd_trace.specs.Stories.{LacksPort, LacksFrame}
use Rattle.pb_cmd_trace.specs.Tracings.{IsReport}
use Rattle.pb_cmd_trace.specs.declared.asked.Asked.{Asked}
use Rattle.pb_cmd_trace.specs.declared.end.TraceEnd.{TraceEnd}
use Rattle.pb_cmd_trace.specs.declared.end.TraceEnd.TheVariants.{Told, Refused, NoPort, NoFrame, NoDown}
use Rattle.pb_cmd_trace.specs.declared.tracing.TraceReport.{TraceReport}
use Rattle.pb_converge.specs.Falls.{IsRefused}
use Rattle.pb_draw_layout.specs.Scenes.{IsSceneOf}
use Rattle.pb_draw_layout.specs.declared.facts.Failures.{Failures}
use Rattle.pb_draw_layout.specs.declared.scene.LinkMark.{LinkMark}
use Rattle.pb_draw_layout.specs.declared.scene.Scene.{Scene}
use Rattle.pb_lan.specs.declared.plan.Plan.{Plan}
use Rattle.pb_report.specs.PlanFiles.{IsToldBy}
use Rattle.pb_report.specs.Refusals.{PrintsRefusal}
use Rattle.pb_trace_svg.specs.Hops.{hops_of}
use Rattle.pb_trace_svg.specs.Marks.{AreMarksOf}
use Rattle.pb_trace_svg.specs.SvgHops.{hop_element, way_element}
use Rattle.pb_trace_svg.specs.declared.marks.HopMark.{HopMark}
use Rattle.pb_trace_svg.specs.declared.style.TheConstants.{HOP_STYLE}

-- the style of hops, the lines of hops over links, and the sign and text of each hop
abbrev pub over_text : Plan → List LinkMark → List HopMark → List ℕ
over_text plan links marks = HOP_STYLE.now ++ flat_map (way_element links) marks ++ flat_map (hop_element plan) marks

-- the picture of the network before the first frame, and over it the hops of the trace
pub record IsPictureOf (plan : Plan) (failed : Failures) (report : TraceReport) (text : List ℕ) : Type 0 where
  pub scene : Scene
  pub is_scene : IsSceneOf plan report.shape None failed scene
  pub marks : List HopMark
  pub marked : AreMarksOf (flat_map hops_of report.lines) marks
  pub text_is : text ≡ svg_with plan scene (over_text plan scene.links marks)

-- the picture of a trace in the network of the plan, in which what the names disable has failed
pub record IsPicture (plan : Plan) (asked : Asked) (text : List ℕ) : Type 0 where
  pub report : TraceReport
  pub traced : IsReport plan asked report
  pub picture : IsPictureOf plan (failures_of plan asked.downs.now) report text

-- that picture, or what is missing or refused
abbrev pub AnswersPicture : Plan → Asked → TraceEnd → List ℕ → Type 0
AnswersPicture plan asked Told text = IsPicture plan asked text
AnswersPicture plan asked Refused text = ⊥
AnswersPicture plan asked (NoPort index) text = LacksPort plan asked.entries.now index
AnswersPicture plan asked (NoFrame index) text = LacksFrame asked.entries.now index
AnswersPicture plan asked (NoDown fault) text = IsRefused plan asked.downs.now fault

-- the picture was written after the earlier output; or something is missing or refused, and nothing was written
abbrev pub WritesPicture : Plan → Asked → TraceEnd → Option (List ℕ) → Option (List ℕ) → Type 0
WritesPicture plan asked Told before after = (text : List ℕ) × Appends before after text × IsPicture plan asked text
WritesPicture plan asked Refused before after = ⊥
WritesPicture plan asked (NoPort index) before after = LacksPort plan asked.entries.now index × Keeps before after
WritesPicture plan asked (NoFrame index) before after = LacksFrame asked.entries.now index × Keeps before after
WritesPicture plan asked (NoDown fault) before after = IsRefused plan asked.downs.now fault × Keeps before after

-- what the command has written: the picture for the plan of the file, or the rule that the file breaks
abbrev pub HasShown : List ℕ → Asked → TraceEnd → Option (List ℕ) → Option (List ℕ) → Type 0
HasShown file asked Refused before after = PrintsRefusal file before after
HasShown file asked Told before after = (plan : Plan) × IsToldBy file plan × WritesPicture plan asked Told before after
HasShown file asked (NoPort index) before after = (plan : Plan) × IsToldBy file plan × WritesPicture plan asked (NoPort index) before after
HasShown file asked (NoFrame index) before after = (plan : Plan) × IsToldBy file plan × WritesPicture plan asked (NoFrame index) before after
HasShown file asked (NoDown fault) before after = (plan : Plan) × IsToldBy file plan × WritesPicture plan asked (NoDown fault) before after
