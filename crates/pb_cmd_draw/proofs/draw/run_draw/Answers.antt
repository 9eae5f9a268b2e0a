use Rattle.std.proofs.Common.{inl}
use Rattle.std.proofs.lemmas.Result.{IfErr-weaker, IfOk-weaker}
use Rattle.pb_cmd_draw.proofs.draw.run_draw.Goals as goal

pub returns-in-Ok-clause-ok : goal.returns-in-Ok-clause-ok
returns-in-Ok-clause-ok g c =
    IfOk-weaker c.draw.result _ _
    (λ end d. inl (record {
      plan = c.in-Ok.plan;
      told = record { specs = c.in-Ok._ports.items; told = c.in-Ok.ensures.plan };
      text = d.0;
      written =
          d.1;
      drawn = d.2;
    })) c.draw.ensures.ok

pub returns-in-Ok-clause-steps : goal.returns-in-Ok-clause-steps
returns-in-Ok-clause-steps g c =
    IfErr-weaker c.draw.result _ _
    (λ e h is. (c.in-Ok.plan, record { specs = c.in-Ok._ports.items; told = c.in-Ok.ensures.plan }, h is))
    c.draw.ensures.steps
