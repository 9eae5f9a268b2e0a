use Rattle.std.proofs.Common.{None, false, refl, subst}
use Rattle.std.proofs.lemmas.Result.{on_ok_weaker}
use Rattle.pb_cmd_draw.specs.Svg.{svg_text}
use Rattle.pb_draw_layout.specs.Scenes.{IsSceneOf}
use Rattle.pb_cmd_report.proofs.picture.put_picture.Goals as goal

pub returns : goal.returns
returns c =
    let plan = c.args.plan.now in
    let scene = c.in_ok-scene.scene in
    on_ok_weaker c.put_svg.result
    (λ e. (
      svg_text plan false scene,
      e,
      record {
        scene = scene;
        is_scene = subst (λ f. IsSceneOf plan c.args.base.now.shape None f scene) c.none_failed-failed.ensures
            c.in_ok-scene.ensures;
        text_is = refl;
      },
    )) c.put_svg.ensures
