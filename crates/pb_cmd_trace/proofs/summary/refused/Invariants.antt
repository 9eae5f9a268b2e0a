use Rattle.std.proofs.Common.{◌≡◌, ◌≤◌, ◌*◌, ◌^◌, take}
use Rattle.pb_cmd_trace.specs.Summaries.{refused}
use Rattle.pb_cmd_trace.proofs.summary.refused.Given as goal

abbrev pub invariant-loop-steps : goal.invariant-loop-steps
invariant-loop-steps l = (l.sum ≡ refused (take l.steps-index l.places)) × (l.sum ≤ 16 * 2 ^ 64 * l.steps-index)
