use Rattle.std.proofs.Common.{◌++◌, codes, string_bytes}
use Rattle.pb_cmd_draw.specs.Svg.{head_text, legend_text, parts_with}
use Rattle.pb_frame.proofs.TextLemmas.{with_piece}
use Rattle.pb_cmd_draw.proofs.svg.put_svg_with.Goals as goal

pub returns : goal.returns
returns c =
    let plan = c.args.plan.now in
    let scene = c.args.scene.now in
    let old = string_bytes c.args.out.now in
    let drawn = string_bytes c.put_parts_with.new.out in
    let explained = string_bytes c.put_legend.new.out in
    let head = head_text scene in
    let parts = parts_with plan scene c.args.more.now in
    let with_parts = with_piece old (string_bytes c.put_head.new.out) drawn head parts c.in_ok-put_head.ensures
    c.in_ok-put_parts_with.ensures in
    let with_legend = with_piece old drawn explained (head ++ parts) (legend_text plan scene) with_parts
    c.in_ok-put_legend.ensures in
    with_piece old explained (string_bytes c.push_str.new.self) (head ++ parts ++ legend_text plan scene)
    (codes "</g>\n</svg>\n") with_legend c.in_ok-push_str.ensures.bytes
