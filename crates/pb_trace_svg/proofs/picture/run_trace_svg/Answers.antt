use Rattle.std.proofs.lemmas.Result.{IfErr-weaker, IfOk-weaker}
use Rattle.pb_trace_svg.proofs.PictureLemmas.{shown_of}
use Rattle.pb_trace_svg.proofs.picture.run_trace_svg.Goals as goal

pub returns-in-Ok-clause-ok : goal.returns-in-Ok-clause-ok
returns-in-Ok-clause-ok g c =
    IfOk-weaker c.write_trace.result _ _
    (λ end h. shown_of c.args.file.now c.in-Ok.plan c.args.asked.now end _ _
    (record { specs = c.in-Ok._ports.items; told = c.in-Ok.ensures.plan }) h)
    c.write_trace.ensures.ok

pub returns-in-Ok-clause-steps : goal.returns-in-Ok-clause-steps
returns-in-Ok-clause-steps g c =
    IfErr-weaker c.write_trace.result _ _
    (λ e h is. (c.in-Ok.plan, record { specs = c.in-Ok._ports.items; told = c.in-Ok.ensures.plan }, h is))
    c.write_trace.ensures.steps
