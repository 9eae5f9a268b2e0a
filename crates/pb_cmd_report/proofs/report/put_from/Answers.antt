use Rattle.std.proofs.Common.{[], inl, refl, sym, subst}
use Rattle.std.proofs.lemmas.Result.{IfOk-weaker}
use Rattle.pb_cmd_report.specs.Pages.{IsTextFrom}
use Rattle.pb_cmd_report.proofs.report.put_from.Goals as goal

pub returns-in-None-clause-ok : goal.returns-in-None-clause-ok
returns-in-None-clause-ok g c =
    let asked = c.args.asked.now in
    IfOk-weaker c.put_whole.result _ _
    (λ end h. (
      h.0,
      h.1,
      subst (λ before. IsTextFrom before c.args.plan.now c.args.source.now asked end h.0) (sym c.in-None.is)
          (inl (record { change = []; is_change = refl; page = h.2; end_is = h.3 })),
    ))
    c.put_whole.ensures.ok

pub returns-in-Some-clause-ok : goal.returns-in-Some-clause-ok
returns-in-Some-clause-ok g c =
    let asked = c.args.asked.now in
    IfOk-weaker c.put_changed.result _ _
    (λ end h. (
      h.0,
      h.1,
      subst (λ before. IsTextFrom before c.args.plan.now c.args.source.now asked end h.0) (sym c.in-Some.is) h.2,
    ))
    c.put_changed.ensures.ok
