use Rattle.std.proofs.Common.{refl}
use Rattle.pb_run.proofs.runs.run.Goals as goal

pub returns-clause-unset : goal.returns-clause-unset
returns-clause-unset g c = c.in_ok-ran.ensures.mode.unset refl

pub returns-clause-planned : goal.returns-clause-planned
returns-clause-planned g c fixed = c.in_ok-ran.ensures.run.steps.planned fixed (c.in_ok-ran.ensures.mode.unset refl)
