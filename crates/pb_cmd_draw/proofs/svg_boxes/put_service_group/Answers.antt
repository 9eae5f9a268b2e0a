use Rattle.std.proofs.Common.{◌++◌, string_bytes}
use Rattle.pb_cmd_draw.specs.SvgBoxes.{place_text, service_class, service_data}
use Rattle.pb_frame.proofs.TextLemmas.{with_piece, last_piece}
use Rattle.pb_cmd_draw.proofs.svg_boxes.put_service_group.Goals as goal

pub returns : goal.returns
returns c =
    let service = c.args.service.now in
    let mark = c.args.mark.now in
    let old = string_bytes c.args.out.now in
    let more = string_bytes c.put_service_data.new.out in
    let named = rw c.as_str-name.ensures at c.in_ok-put_service_class.ensures in
    let described = rw c.as_str-name.ensures at c.in_ok-put_service_data.ensures in
    let class = service_class service.name mark.facts in
    let with_data = with_piece old (string_bytes c.put_service_class.new.out) more class
    (service_data service.name service.vid) named described in
    last_piece c.put_place.result old more (string_bytes c.put_place.new.out)
    (class ++ service_data service.name service.vid) (place_text mark.corner) with_data c.put_place.ensures
