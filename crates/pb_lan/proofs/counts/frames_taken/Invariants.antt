use Rattle.std.proofs.Common.{◌≡◌, take}
use Rattle.pb_lan.specs.Counts.{left}
use Rattle.pb_lan.proofs.counts.frames_taken.Given as goal

abbrev pub invariant-loop-step : goal.invariant-loop-step
invariant-loop-step l = l.frames.items ≡ left (take l.step-index l.steps)
