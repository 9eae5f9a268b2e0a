use Rattle.std.proofs.Common.{◌++◌, string_bytes}
use Rattle.pb_cmd_draw.specs.SvgBoxes.{box_group, box_text, bridge_title}
use Rattle.pb_frame.proofs.TextLemmas.{with_piece, last_piece}
use Rattle.pb_cmd_draw.proofs.svg_boxes.put_known_bridge.Goals as goal

pub returns : goal.returns
returns c =
    let bridge = c.args.bridge.now in
    let mark = c.args.mark.now in
    let old = string_bytes c.args.out.now in
    let more = string_bytes c.put_bridge_title.new.out in
    let group = box_group bridge.name mark.facts mark.corner in
    let named = rw c.as_str-name.ensures at c.in_ok-put_box_group.ensures in
    let titled = with_piece old (string_bytes c.put_box_group.new.out) more group (bridge_title bridge) named
    c.in_ok-put_bridge_title.ensures in
    let boxed = rw c.as_str-name.ensures at c.put_box.ensures in
    last_piece c.put_box.result old more (string_bytes c.put_box.new.out) (group ++ bridge_title bridge)
    (box_text mark.facts mark.size bridge.name) titled boxed
