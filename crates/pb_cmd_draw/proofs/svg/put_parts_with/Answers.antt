use Rattle.std.proofs.Common.{◌++◌, false, flat_map, string_bytes}
use Rattle.pb_cmd_draw.specs.Svg.{boxes_text}
use Rattle.pb_cmd_draw.specs.SvgLinks.{ends_element}
use Rattle.pb_frame.proofs.TextLemmas.{with_piece, last_piece}
use Rattle.pb_cmd_draw.proofs.svg.put_parts_with.Goals as goal

pub returns : goal.returns
returns c =
    let plan = c.args.plan.now in
    let scene = c.args.scene.now in
    let more = c.args.more.now in
    let old = string_bytes c.args.out.now in
    let grown = string_bytes c.push_str.new.self in
    let boxes = boxes_text plan scene in
    let with_more = with_piece old (string_bytes c.put_boxes.new.out) grown boxes more c.in_ok-put_boxes.ensures
    c.in_ok-push_str.ensures.bytes in
    last_piece c.put_all_ends.result old grown (string_bytes c.put_all_ends.new.out) (boxes ++ more)
    (flat_map (ends_element plan false) scene.links) with_more
    (rw c.as_slice.ensures at c.put_all_ends.ensures)
