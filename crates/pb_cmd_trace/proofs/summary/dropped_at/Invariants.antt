use Rattle.std.proofs.Common.{◌≡◌, ◌≤◌, take}
use Rattle.std.specs.Prelude.{sum_by}
use Rattle.pb_cmd_trace.specs.Summaries.{drops}
use Rattle.pb_cmd_trace.proofs.summary.dropped_at.Given as goal

abbrev pub invariant-loop-step : goal.invariant-loop-step
invariant-loop-step l = (l.sum ≡ sum_by drops (take l.step-index l.steps)) × (l.sum ≤ l.step-index)
