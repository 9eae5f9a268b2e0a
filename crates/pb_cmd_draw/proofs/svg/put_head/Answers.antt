use Rattle.std.proofs.Common.{◌++◌, string_bytes}
use Rattle.pb_cmd_draw.specs.Svg.{opening_text, counts_text, ground_text, group_text}
use Rattle.pb_cmd_draw.specs.declared.style.TheConstants.{STYLE}
use Rattle.pb_frame.proofs.TextLemmas.{with_piece, last_piece}
use Rattle.pb_cmd_draw.proofs.svg.put_head.Goals as goal

pub returns : goal.returns
returns c =
    let scene = c.args.scene.now in
    let old = string_bytes c.args.out.now in
    let ground = string_bytes c.put_ground.new.out in
    let opening = opening_text scene.size in
    let counts = opening ++ counts_text scene in
    let style = counts ++ STYLE.now in
    let with_counts = with_piece old (string_bytes c.put_opening.new.out) (string_bytes c.put_counts.new.out) opening
    (counts_text scene) c.in_ok-put_opening.ensures c.in_ok-put_counts.ensures in
    let with_style = with_piece old (string_bytes c.put_counts.new.out) (string_bytes c.push_str.new.self) counts
    STYLE.now with_counts c.in_ok-push_str.ensures.bytes in
    let with_ground = with_piece old (string_bytes c.push_str.new.self) ground style (ground_text scene.size)
    with_style c.in_ok-put_ground.ensures in
    last_piece c.put_group.result old ground (string_bytes c.put_group.new.out) (style ++ ground_text scene.size)
    (group_text scene.chosen) with_ground c.put_group.ensures
