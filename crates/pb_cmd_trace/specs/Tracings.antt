-- The traces of frames in the network of a plan.
use Rattle.std.specs.Prelude.{◌≡◌, true, length, unwrap_or}
use Rattle.pb_converge.specs.Enough.{HasEnoughMemory}
use Rattle.pb_converge.specs.Drives.{IsCaused, ReachesLimit}
use Rattle.pb_converge.specs.Falls.{HaveFallen, IsRefused, down_count, fresh_by}
use Rattle.pb_converge.specs.declared.fault.DriveFault.{DriveFault}
use Rattle.pb_lan.specs.LastShapes.{last_shape}
use Rattle.pb_lan.specs.Records.{IsLawfulRecord}
use Rattle.pb_lan.specs.declared.plan.Plan.{Plan}
use Rattle.pb_net.specs.Answers.{NetView}
use Rattle.pb_relay.specs.Protocol.{spanning_tree}
use Rattle.pb_cmd_trace.specs.Stories.{HasBegun, HasJourneyed, LacksPort, LacksFrame}
use Rattle.pb_cmd_trace.specs.declared.asked.Asked.{Asked}
use Rattle.pb_cmd_trace.specs.declared.journey.Journey.TheVariants.{Told as journey_told}
use Rattle.pb_cmd_trace.specs.declared.tracing.TraceReport.{TraceReport}
use Rattle.pb_cmd_trace.specs.declared.tracing.Tracing.{Tracing}
use Rattle.pb_cmd_trace.specs.declared.tracing.Tracing.TheVariants.{Told, NoPort, NoFrame, NoDown}

-- The bridges converge if that is requested, then the frames go one after the other. The record before the first frame and
-- the last one, which has all steps, are lawful, and no allocation failed in the latter.
pub record IsReportFrom (plan : Plan) (asked : Asked) (start : NetView) (report : TraceReport) : Type 0 where
  pub ready : NetView
  pub begun : HasBegun asked.settle start ready report.convergence
  pub planned : ready.plan ≡ plan
  pub lawful : IsLawfulRecord spanning_tree plan ready.rec
  pub shape : report.shape ≡ last_shape plan ready.rec
  pub last : NetView
  pub stories : HasJourneyed plan asked.entries.now (journey_told report.round) ready last report.lines
  pub counted : IsLawfulRecord spanning_tree plan last.rec
  pub enough : HasEnoughMemory last.rec
  pub record_is : report.record ≡ last.rec

-- those traces, or what is missing
abbrev pub EndsTracing : Plan → Asked → NetView → Tracing → Type 0
EndsTracing plan asked start (Told report) = IsReportFrom plan asked start report
EndsTracing plan asked start (NoPort index) = LacksPort plan asked.entries.now index
EndsTracing plan asked start (NoFrame index) = LacksFrame asked.entries.now index
EndsTracing plan asked start (NoDown fault) = ⊥

-- what the names disable is disabled first
pub record IsReport (plan : Plan) (asked : Asked) (report : TraceReport) : Type 0 where
  pub fallen : NetView
  pub falls : HaveFallen plan asked.downs.now fallen
  pub traced : IsReportFrom plan asked fallen report

-- the traces, or what is missing or refused
abbrev pub IsTracing : Plan → Asked → Tracing → Type 0
IsTracing plan asked (Told report) = IsReport plan asked report
IsTracing plan asked (NoPort index) = LacksPort plan asked.entries.now index
IsTracing plan asked (NoFrame index) = LacksFrame asked.entries.now index
IsTracing plan asked (NoDown fault) = IsRefused plan asked.downs.now fault

-- the network of the plan reaches the limit of steps of a place, or a million events that carry on what is on its way:
-- each bridge ticks at most as often as requested until convergence, no frames are polled but those to trace, and only
-- what the names disable is disabled
abbrev pub TracingReachesLimit : Plan → Asked → Type 0
TracingReachesLimit plan asked = ReachesLimit (unwrap_or asked.settle 0) (length asked.entries.now)
    (down_count plan asked.downs.now) 1000000 (fresh_by true plan)

-- why tracing ended with a fault: so, unless an allocation failed
abbrev pub IsTracingFault : Plan → Asked → DriveFault → Type 0
IsTracingFault plan asked fault = IsCaused (unwrap_or asked.settle 0) (length asked.entries.now)
    (down_count plan asked.downs.now) 1000000 fault (fresh_by true plan)
