use Rattle.std.proofs.Common.{refl}
use Rattle.pb_run.proofs.runs.run_kept.Goals as goal

pub returns-clause-run : goal.returns-clause-run
returns-clause-run g c = rw (c.in_ok-ran.ensures.back.0 refl) c.in_ok-ran.ensures.run

pub returns-clause-unset : goal.returns-clause-unset
returns-clause-unset g c = rw (c.in_ok-ran.ensures.back.0 refl) (c.in_ok-ran.ensures.mode.unset refl)

pub returns-clause-planned : goal.returns-clause-planned
returns-clause-planned g c fixed =
    let ran = c.in_ok-ran.ensures in
    rw (ran.back.0 refl) (ran.run.steps.planned fixed (ran.mode.unset refl))
