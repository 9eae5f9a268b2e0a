use Rattle.std.proofs.Common.{◌≡◌, ◌≤◌, ◌*◌, ◌^◌, take}
use Rattle.pb_cmd_trace.specs.Summaries.{dropped}
use Rattle.pb_cmd_trace.proofs.summary.dropped.Given as goal

abbrev pub invariant-loop-steps : goal.invariant-loop-steps
invariant-loop-steps l = (l.sum ≡ dropped (take l.steps-index l.places)) × (l.sum ≤ 2 ^ 64 * l.steps-index)
