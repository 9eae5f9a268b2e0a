use Rattle.std.proofs.Common.{◌++◌, string_bytes}
use Rattle.pb_cmd_draw.specs.SvgBoxes.{place_text}
use Rattle.pb_cmd_draw.specs.SvgKeys.{key_element, key_group, key_label}
use Rattle.pb_frame.proofs.TextLemmas.{with_piece, last_piece}
use Rattle.pb_cmd_draw.proofs.svg_keys.put_key.Goals as goal

pub returns : goal.returns
unfolding key_element
returns c =
    let mark = c.args.mark.now in
    let old = string_bytes c.args.out.now in
    let more = string_bytes c.put_place.new.out in
    let placed = with_piece old (string_bytes c.put_key_group.new.out) more (key_group mark.key)
    (place_text mark.corner)
    c.in_ok-put_key_group.ensures c.in_ok-put_place.ensures in
    last_piece c.put_key_label.result old more (string_bytes c.put_key_label.new.out)
    (key_group mark.key ++ place_text mark.corner) (key_label mark.key) placed c.put_key_label.ensures
