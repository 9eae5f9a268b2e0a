use Rattle.std.proofs.Common.{◌++◌, codes, string_bytes}
use Rattle.pb_cmd_draw.specs.Dot.{parts_text}
use Rattle.pb_frame.proofs.TextLemmas.{with_piece}
use Rattle.pb_cmd_draw.proofs.dot.put_dot.Goals as goal

pub returns : goal.returns
returns c =
    let old = string_bytes c.args.out.now in
    let parts = string_bytes c.put_parts.new.out in
    let head = codes "graph network {\n" in
    let all = parts_text c.args.plan.now c.args.lists c.args.scene.now in
    let with_parts = with_piece old (string_bytes c.push_str.new.self) parts head all c.in_ok-push_str.ensures.bytes
    c.in_ok-put_parts.ensures in
    with_piece old parts (string_bytes c.push_str-2.new.self) (head ++ all) (codes "}\n") with_parts
    c.in_ok-push_str-2.ensures.bytes
