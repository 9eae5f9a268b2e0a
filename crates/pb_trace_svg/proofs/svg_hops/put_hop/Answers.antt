use Rattle.std.proofs.Common.{◌++◌, string_bytes}
use Rattle.pb_frame.proofs.TextLemmas.{last_piece, with_piece}
use Rattle.pb_trace_svg.specs.SvgHops.{hop_drawing, hop_group, hop_label}
use Rattle.pb_trace_svg.proofs.svg_hops.put_hop.Goals as goal

pub returns : goal.returns
returns c =
    let plan = c.args.plan.now in
    let mark = c.args.mark.now in
    let old = string_bytes c.args.out.now in
    let drawn = string_bytes c.put_drawing.new.out in
    let group = hop_group plan mark.number mark.hop in
    let drawing = hop_drawing mark.hop mark.sign in
    let with_drawing = with_piece old (string_bytes c.put_hop_group.new.out) drawn group drawing
    c.in_ok-put_hop_group.ensures c.in_ok-put_drawing.ensures in
    last_piece c.put_hop_label.result old drawn (string_bytes c.put_hop_label.new.out) (group ++ drawing)
    (hop_label plan mark) with_drawing c.put_hop_label.ensures
