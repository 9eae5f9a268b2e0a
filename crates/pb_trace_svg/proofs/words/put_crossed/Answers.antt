use Rattle.std.proofs.Common.{◌++◌, codes, string_bytes}
use Rattle.pb_frame.proofs.TextLemmas.{with_piece}
use Rattle.pb_trace_svg.specs.Words.{far_name, lost_word, tag_words}
use Rattle.pb_trace_svg.proofs.words.put_crossed.Goals as goal

pub returns : goal.returns
returns c =
    let far = far_name c.args.plan.now c.args.lane in
    let tag = tag_words c.args.tag in
    let old = string_bytes c.args.out.now in
    let begun = string_bytes c.push_str.new.self in
    let named = string_bytes c.push_str-2.new.self in
    let parted = string_bytes c.push_str-3.new.self in
    let tagged = string_bytes c.put_tag.new.out in
    let to = codes "to " in
    let colon = codes ": " in
    let with_name = with_piece old begun named to far c.in_ok-push_str.ensures.bytes
    (rw c.far_name.ensures at c.in_ok-push_str-2.ensures.bytes) in
    let with_colon = with_piece old named parted (to ++ far) colon with_name c.in_ok-push_str-3.ensures.bytes in
    let with_tag = with_piece old parted tagged (to ++ far ++ colon) tag with_colon c.in_ok-put_tag.ensures in
    with_piece old tagged (string_bytes c.push_str-4.new.self) (to ++ far ++ colon ++ tag) (lost_word c.args.lost)
    with_tag (rw c.lost_word.ensures at c.in_ok-push_str-4.ensures.bytes)
