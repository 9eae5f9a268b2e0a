use Rattle.std.proofs.Common.{inl, subst}
use Rattle.std.proofs.lemmas.Result.{IfOk-weaker}
use Rattle.pb_report.specs.PlanFiles.{IsToldBy}
use Rattle.pb_cmd_report.proofs.report.put_text.Goals as goal

pub returns-in-Ok-clause-ok : goal.returns-in-Ok-clause-ok
returns-in-Ok-clause-ok g c =
    IfOk-weaker c.put_from.result _ _
    (λ end h. (
      h.0,
      h.1,
      inl (record {
        plan = c.in-Ok.plan;
        told = subst (λ file. IsToldBy file c.in-Ok.plan) c.as_bytes.ensures.value
            (record { specs = c.in-Ok._ports.items; told = c.in-Ok.ensures.plan });
        said = h.2;
      }),
    ))
    c.put_from.ensures.ok
