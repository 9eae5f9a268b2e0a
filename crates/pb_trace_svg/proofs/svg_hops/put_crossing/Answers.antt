use Rattle.std.proofs.Common.{◌++◌, codes, string_bytes}
use Rattle.pb_frame.proofs.TextLemmas.{with_piece}
use Rattle.pb_trace_svg.specs.SvgHops.{arrow_word, route_part, way_start}
use Rattle.pb_trace_svg.specs.declared.hops.Hop.TheVariants.{Crossed}
use Rattle.pb_trace_svg.proofs.svg_hops.put_crossing.Goals as goal

pub returns : goal.returns
returns c =
    let lane = c.args.lane in
    let lost = c.args.lost in
    let old = string_bytes c.args.out.now in
    let drawn = string_bytes c.put_route_part.new.out in
    let pointed = string_bytes c.push_str.new.self in
    let start = way_start c.args.number (Crossed lane c.args.tag lost) in
    let route = route_part c.args.links.now lane in
    let arrow = arrow_word lane lost in
    let with_route = with_piece old (string_bytes c.put_way_start.new.out) drawn start route
    c.in_ok-put_way_start.ensures c.in_ok-put_route_part.ensures in
    let with_arrow = with_piece old drawn pointed (start ++ route) arrow with_route
    (rw c.arrow_word.ensures at c.in_ok-push_str.ensures.bytes) in
    with_piece old pointed (string_bytes c.push_str-2.new.self) (start ++ route ++ arrow) (codes "/>\n") with_arrow
    c.in_ok-push_str-2.ensures.bytes
