use Rattle.std.proofs.Common.{subst}
use Rattle.std.proofs.lemmas.Result.{on_ok_weaker}
use Rattle.pb_trace_svg.specs.Pictures.{IsPictureOf}
use Rattle.pb_trace_svg.proofs.picture.put_report.Goals as goal

pub returns : goal.returns
returns c =
    on_ok_weaker c.put_picture.result
    (λ t. (
      t.0,
      t.1,
      subst (λ failed. IsPictureOf c.args.plan.now failed c.args.report.now t.0) c.in_ok-failed.ensures t.2,
    )) c.put_picture.ensures
