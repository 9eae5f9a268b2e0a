use Rattle.std.proofs.Common.{◌++◌, string_bytes}
use Rattle.pb_frame.proofs.TextLemmas.{with_piece}
use Rattle.pb_cmd_report.specs.Pages.{head_text, counts_text}
use Rattle.pb_cmd_report.specs.declared.texts.TheConstants.{BEFORE_PICTURE, AFTER_PICTURE}
use Rattle.pb_cmd_report.proofs.page.put_top.Goals as goal

pub returns : goal.returns
returns c =
    let old = string_bytes c.args.out.now in
    let head = head_text c.args.title.now in
    let counts = counts_text c.args.base.now c.args.analyses.now in
    let before = BEFORE_PICTURE.now in
    let drawn = c.in_ok-put_picture.ensures in
    let one = string_bytes c.put_head.new.out in
    let two = string_bytes c.put_counts.new.out in
    let three = string_bytes c.push_str.new.self in
    let four = string_bytes c.put_picture.new.out in
    let counted = with_piece old one two head counts c.in_ok-put_head.ensures c.in_ok-put_counts.ensures in
    let opened = with_piece old two three (head ++ counts) before counted c.in_ok-push_str.ensures.bytes in
    let shown = with_piece old three four (head ++ counts ++ before) drawn.0 opened drawn.1 in (
      drawn.0,
      with_piece old four (string_bytes c.push_str-2.new.self) (head ++ counts ++ before ++ drawn.0) AFTER_PICTURE.now
          shown c.in_ok-push_str-2.ensures.bytes,
      drawn.2,
    )
