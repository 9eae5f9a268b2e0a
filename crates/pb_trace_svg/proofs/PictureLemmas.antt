-- What the command has written.
use Rattle.std.proofs.Common.{ℕ, List, Option}
use Rattle.pb_cmd_trace.specs.declared.asked.Asked.{Asked}
use Rattle.pb_cmd_trace.specs.declared.end.TraceEnd.{TraceEnd}
use Rattle.pb_cmd_trace.specs.declared.end.TraceEnd.TheVariants.{Told, Refused, NoPort, NoFrame, NoDown}
use Rattle.pb_lan.specs.declared.plan.Plan.{Plan}
use Rattle.pb_report.specs.PlanFiles.{IsToldBy}
use Rattle.pb_trace_svg.specs.Pictures.{WritesPicture, HasShown}

-- what the command has written for the plan of a file, for the contract of run_trace_svg
pub shown_of : (file : List ℕ) (plan : Plan) (asked : Asked) (end : TraceEnd) (before after : Option (List ℕ))
    → IsToldBy file plan → WritesPicture plan asked end before after → HasShown file asked end before after
shown_of file plan asked Told before after told h = (plan, told, h)
shown_of file plan asked Refused before after told h = absurd h
shown_of file plan asked (NoPort index) before after told h = (plan, told, h)
shown_of file plan asked (NoFrame index) before after told h = (plan, told, h)
shown_of file plan asked (NoDown fault) before after told h = (plan, told, h)
