use Rattle.std.proofs.Common.{subst}
use Rattle.std.proofs.lemmas.Result.{on_ok_weaker}
use Rattle.pb_cmd_draw.specs.Draws.{IsPictureOf}
use Rattle.pb_cmd_draw.proofs.draw.put_last.Goals as goal

pub returns-clause-picture : goal.returns-clause-picture
returns-clause-picture c =
    on_ok_weaker c.put_picture.result
    (λ t. (
      t.0,
      t.1,
      subst (λ shape. IsPictureOf c.args.plan.now shape c.args.shown.chosen c.args.shown.failed.now c.args.shown.lists
          c.args.shown.format t.0)
          c.in_ok-shape.ensures.shape t.2,
    )) c.put_picture.ensures
