use Rattle.std.proofs.Common.{sym, ap}
use Rattle.std.proofs.lemmas.Result.{on_ok_weaker}
use Rattle.pb_cmd_draw.specs.Dot.{dot_text}
use Rattle.pb_cmd_draw.specs.Draws.{picture_text}
use Rattle.pb_cmd_draw.specs.Svg.{svg_text}
use Rattle.pb_cmd_draw.proofs.draw.put_picture.Goals as goal

pub returns-in-Svg : goal.returns-in-Svg
returns-in-Svg c =
    let plan = c.args.plan.now in
    let lists = c.args.shown.lists in
    let scene = c.in_ok-scene.scene in
    on_ok_weaker c.put_svg.result
    (λ e. (
      svg_text plan lists scene,
      e,
      record {
        scene = scene;
        is_scene = c.in_ok-scene.ensures;
        text_is = ap
            (λ f. picture_text f plan lists scene) (sym c.in-Svg.is);
      },
    )) c.put_svg.ensures

pub returns : goal.returns
returns c =
    let plan = c.args.plan.now in
    let lists = c.args.shown.lists in
    let scene = c.in_ok-scene.scene in
    on_ok_weaker c.put_dot.result
    (λ e. (
      dot_text plan lists scene,
      e,
      record {
        scene = scene;
        is_scene = c.in_ok-scene.ensures;
        text_is = ap
            (λ f. picture_text f plan lists scene) (sym c.in-Dot.is);
      },
    )) c.put_dot.ensures
