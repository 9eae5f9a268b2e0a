use Rattle.std.proofs.lemmas.Result.{IfErr-weaker}
use Rattle.pb_cmd_trace.proofs.trace.run_trace.Goals as goal

pub returns-in-Ok-clause-steps : goal.returns-in-Ok-clause-steps
returns-in-Ok-clause-steps g c =
    IfErr-weaker c.write_trace.result _ _
    (λ e h is. (c.in-Ok.plan, record { specs = c.in-Ok._ports.items; told = c.in-Ok.ensures.plan }, h is))
    c.write_trace.ensures.steps
