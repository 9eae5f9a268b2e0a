-- The command: frames are injected one after the other, and the lines show where each goes.
use Rattle.std.specs.Prelude.{◌≡◌, ℕ, List, [], ◌++◌, Option, Some, None, flat_map}
use Rattle.std.specs.Io.KnownBytes.{Appends, Keeps}
use Rattle.pb_converge.specs.Falls.{IsRefused}
use Rattle.pb_converge.specs.Convergences.{convergence_line}
use Rattle.pb_converge.specs.declared.convergence.Convergence.{Convergence}
use Rattle.pb_lan.specs.declared.plan.Plan.{Plan}
use Rattle.pb_lan.specs.declared.record.Record.{Record}
use Rattle.pb_report.specs.PlanFiles.{IsToldBy}
use Rattle.pb_report.specs.Refusals.{PrintsRefusal}
use Rattle.pb_cmd_trace.specs.Lines.{line_text}
use Rattle.pb_cmd_trace.specs.Stories.{LacksPort, LacksFrame}
use Rattle.pb_cmd_trace.specs.Summaries.{round_line, summary_line}
use Rattle.pb_cmd_trace.specs.Tracings.{IsReport, TracingReachesLimit}
use Rattle.pb_cmd_trace.specs.declared.asked.Asked.{Asked}
use Rattle.pb_cmd_trace.specs.declared.end.TraceEnd.{TraceEnd}
use Rattle.pb_cmd_trace.specs.declared.end.TraceEnd.TheVariants.{Told, Refused, NoPort, NoFrame, NoDown}
use Rattle.pb_cmd_trace.specs.declared.round.FrameId.{FrameId}
use Rattle.pb_cmd_trace.specs.declared.tracing.TraceReport.{TraceReport}

-- the last lines
abbrev pub end_lines : Plan → Record → Option FrameId → List ℕ
end_lines plan rec round = round_line plan rec round ++ summary_line plan rec

-- whether the bridges converged first, if that was requested
abbrev pub head_text : Option Convergence → List ℕ
head_text None = []
head_text (Some convergence) = convergence_line convergence

-- whether the bridges converged, the lines of the reports, and the last lines
abbrev pub trace_text : Plan → TraceReport → List ℕ
trace_text plan report =
    head_text report.convergence ++ flat_map (line_text plan) report.lines ++ end_lines plan report.record report.round

-- the text of a trace in the network of the plan
pub record IsTrace (plan : Plan) (asked : Asked) (text : List ℕ) : Type 0 where
  pub report : TraceReport
  pub traced : IsReport plan asked report
  pub text_is : text ≡ trace_text plan report

-- that text, or what is missing or refused
abbrev pub AnswersTrace : Plan → Asked → TraceEnd → List ℕ → Type 0
AnswersTrace plan asked Told text = IsTrace plan asked text
AnswersTrace plan asked Refused text = ⊥
AnswersTrace plan asked (NoPort index) text = LacksPort plan asked.entries.now index
AnswersTrace plan asked (NoFrame index) text = LacksFrame asked.entries.now index
AnswersTrace plan asked (NoDown fault) text = IsRefused plan asked.downs.now fault

-- the text was written after the earlier output; or something is missing or refused, and nothing was written
abbrev pub HasTraced : Plan → Asked → TraceEnd → Option (List ℕ) → Option (List ℕ) → Type 0
HasTraced plan asked Told before after = (text : List ℕ) × Appends before after text × IsTrace plan asked text
HasTraced plan asked Refused before after = ⊥
HasTraced plan asked (NoPort index) before after = LacksPort plan asked.entries.now index × Keeps before after
HasTraced plan asked (NoFrame index) before after = LacksFrame asked.entries.now index × Keeps before after
HasTraced plan asked (NoDown fault) before after = IsRefused plan asked.downs.now fault × Keeps before after

-- what the command has written: the traces in the plan of the file, or the rule that the file breaks
abbrev pub HasTold : List ℕ → Asked → TraceEnd → Option (List ℕ) → Option (List ℕ) → Type 0
HasTold file asked Refused before after = PrintsRefusal file before after
HasTold file asked Told before after = (plan : Plan) × IsToldBy file plan × HasTraced plan asked Told before after
HasTold file asked (NoPort index) before after = (plan : Plan) × IsToldBy file plan × HasTraced plan asked (NoPort index) before after
HasTold file asked (NoFrame index) before after = (plan : Plan) × IsToldBy file plan × HasTraced plan asked (NoFrame index) before after
HasTold file asked (NoDown fault) before after = (plan : Plan) × IsToldBy file plan × HasTraced plan asked (NoDown fault) before after

-- the plan is in the file, and its network reaches a limit
abbrev pub RunsIntoLimit : List ℕ → Asked → Type 0
RunsIntoLimit file asked = (plan : Plan) × IsToldBy file plan × TracingReachesLimit plan asked
