use Rattle.std.proofs.Common.{◌≡◌, List, ◌++◌, flat_map, string_bytes, refl, ap, subst, ◌∙◌}
use Rattle.std.proofs.lemmas.Result.{on_ok_weaker}
use Rattle.pb_cmd_draw.specs.Svg.{svg_with}
use Rattle.pb_trace_svg.specs.Hops.{hops_of}
use Rattle.pb_trace_svg.specs.Marks.{AreMarksOf}
use Rattle.pb_trace_svg.specs.Pictures.{over_text}
use Rattle.pb_draw_layout.specs.declared.scene.LinkMark.{LinkMark}
use Rattle.pb_trace_svg.specs.declared.marks.HopMark.{HopMark}
use Rattle.pb_trace_svg.proofs.picture.put_picture.Goals as goal

pub returns : goal.returns
returns c =
    let plan = c.args.plan.now in
    let scene = c.in_ok-scene.scene in
    let marks = c.in_ok-marks.marks in
    let over = over_text plan scene.links marks in
    let old = string_bytes c.new-over.result in
    let links_are = ap (λ (ls : List LinkMark). old ++ over_text plan ls c.as_slice-9.result.now) c.as_slice-8.ensures
    in
    let marks_are = ap (λ (ms : List HopMark). old ++ over_text plan scene.links ms) c.as_slice-9.ensures in
    let over_is : c.as_str.result.now ≡ over = c.as_str.ensures.value ∙ c.in_ok-put_over.ensures ∙ links_are
    ∙ marks_are ∙ ap (λ t. t ++ over) c.new-over.ensures.bytes in
    let hops_are : c.as_slice-7.result.now ≡ flat_map hops_of c.args.report.now.lines = c.as_slice-7.ensures.value
    ∙ c.in_ok-hops.ensures ∙ ap (flat_map hops_of) c.as_slice.ensures in
    on_ok_weaker c.put_svg_with.result
    (λ e. (
      svg_with plan scene over,
      e ∙ ap (λ t. string_bytes c.args.out.now ++ svg_with plan scene t) over_is,
      record {
        scene = scene;
        is_scene = c.in_ok-scene.ensures;
        marks = marks;
        marked = subst (λ hs. AreMarksOf hs marks) hops_are c.in_ok-marks.ensures;
        text_is = refl;
      },
    )) c.put_svg_with.ensures
