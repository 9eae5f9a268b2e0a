use Rattle.std.proofs.lemmas.Result.{IfOk-weaker}
use Rattle.pb_run.specs.Runs.{IsRun}
use Rattle.pb_run_tests.proofs.RunLemmas.{run_tells}
use Rattle.pb_workers.specs.Ports.{port_frames}
use Rattle.pb_run_tests.proofs.tests.explained.run_recorded.Goals as goal

pub returns-clause-tells : goal.returns-clause-tells
returns-clause-tells g c =
    IfOk-weaker c.run_kept.result _ _
    (λ kept is. run_tells (λ b. port_frames (goal.Port-dyn g (b.vtable, b.value)) b.value) c.args.plan.now
    c.args.ports kept.ran.ports kept.rec kept.ran.last.items kept.ran.ended kept.ran.settled is)
    c.run_kept.ensures.run
