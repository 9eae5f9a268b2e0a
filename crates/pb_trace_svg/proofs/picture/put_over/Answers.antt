use Rattle.std.proofs.Common.{◌++◌, flat_map, string_bytes}
use Rattle.pb_frame.proofs.TextLemmas.{last_piece, with_piece}
use Rattle.pb_trace_svg.specs.SvgHops.{hop_element, way_element}
use Rattle.pb_trace_svg.specs.declared.style.TheConstants.{HOP_STYLE}
use Rattle.pb_trace_svg.proofs.picture.put_over.Goals as goal

pub returns : goal.returns
returns c =
    let plan = c.args.plan.now in
    let marks = c.args.marks.now in
    let old = string_bytes c.args.out.now in
    let drawn = string_bytes c.put_ways.new.out in
    let ways = flat_map (way_element c.args.links.now) marks in
    let with_ways = with_piece old (string_bytes c.push_str.new.self) drawn HOP_STYLE.now ways
    c.in_ok-push_str.ensures.bytes c.in_ok-put_ways.ensures in
    last_piece c.put_hops.result old drawn (string_bytes c.put_hops.new.out) (HOP_STYLE.now ++ ways)
    (flat_map (hop_element plan) marks) with_ways c.put_hops.ensures
