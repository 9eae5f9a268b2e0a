use Rattle.std.proofs.Common.{◌++◌, codes, string_bytes}
use Rattle.pb_frame.proofs.TextLemmas.{with_piece}
use Rattle.pb_trace_svg.specs.SvgHops.{lane_data}
use Rattle.pb_trace_svg.specs.Words.{tag_words}
use Rattle.pb_trace_svg.proofs.svg_hops.put_crossing_data.Goals as goal

pub returns : goal.returns
returns c =
    let tag = tag_words c.args.tag in
    let old = string_bytes c.args.out.now in
    let named = string_bytes c.push_str.new.self in
    let tagged = string_bytes c.put_tag.new.out in
    let lane = lane_data c.args.plan.now c.args.lane in
    let name = codes "data-tag=\"" in
    let with_name = with_piece old (string_bytes c.put_lane_data.new.out) named lane name c.in_ok-put_lane_data.ensures
    c.in_ok-push_str.ensures.bytes in
    let with_tag = with_piece old named tagged (lane ++ name) tag with_name c.in_ok-put_tag.ensures in
    with_piece old tagged (string_bytes c.push_str-2.new.self) (lane ++ name ++ tag) (codes "\">") with_tag
    c.in_ok-push_str-2.ensures.bytes
