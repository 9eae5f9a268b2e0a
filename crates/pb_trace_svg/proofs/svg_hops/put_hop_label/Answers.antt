use Rattle.std.proofs.Common.{◌++◌, codes, string_bytes}
use Rattle.pb_frame.proofs.TextLemmas.{with_piece}
use Rattle.pb_trace_svg.specs.SvgHops.{label_start, number_words, plate_text}
use Rattle.pb_trace_svg.specs.Words.{hop_words}
use Rattle.pb_trace_svg.proofs.svg_hops.put_hop_label.Goals as goal

pub returns : goal.returns
returns c =
    let plan = c.args.plan.now in
    let mark = c.args.mark.now in
    let old = string_bytes c.args.out.now in
    let plated = string_bytes c.put_plate.new.out in
    let numbered = string_bytes c.put_number.new.out in
    let worded = string_bytes c.put_hop_words.new.out in
    let start = label_start mark.text in
    let plate = plate_text mark.half in
    let number = number_words mark.number in
    let words = hop_words plan mark.hop in
    let with_plate = with_piece old (string_bytes c.put_label_start.new.out) plated start plate
    c.in_ok-put_label_start.ensures c.in_ok-put_plate.ensures in
    let with_number = with_piece old plated numbered (start ++ plate) number with_plate c.in_ok-put_number.ensures in
    let with_words = with_piece old numbered worded (start ++ plate ++ number) words with_number
    c.in_ok-put_hop_words.ensures in
    with_piece old worded (string_bytes c.push_str.new.self) (start ++ plate ++ number ++ words)
    (codes "</text></g></g>\n") with_words c.in_ok-push_str.ensures.bytes
