use Rattle.std.proofs.Common.{◌≡◌, ◌≤◌, ◌*◌, ◌^◌, take}
use Rattle.pb_cmd_trace.specs.Summaries.{lost}
use Rattle.pb_cmd_trace.proofs.summary.lost.Given as goal

abbrev pub invariant-loop-steps : goal.invariant-loop-steps
invariant-loop-steps l = (l.sum ≡ lost (take l.steps-index l.places)) × (l.sum ≤ 2 ^ 64 * l.steps-index)
