use Rattle.std.proofs.Common.{◌≡◌, take}
use Rattle.pb_history.proofs.tally.Tally.of.Given as goal

abbrev pub invariant-loop-step : goal.invariant-loop-step
invariant-loop-step l = l.tally ≡ take l.step-index l.steps
