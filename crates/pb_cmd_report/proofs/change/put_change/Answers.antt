use Rattle.std.proofs.Common.{◌++◌, string_bytes}
use Rattle.pb_frame.proofs.TextLemmas.{with_piece}
use Rattle.pb_cmd_report.specs.Changes.{said_text}
use Rattle.pb_cmd_report.specs.declared.texts.TheConstants.{AFTER_CHANGE}
use Rattle.pb_cmd_report.proofs.change.put_change.Goals as goal

pub returns : goal.returns
returns c =
    let old = string_bytes c.args.out.now in
    let said = said_text c.args.title.now c.args.said.now in
    let drawn = c.in_ok-put_picture.ensures in
    let one = string_bytes c.put_said.new.out in
    let two = string_bytes c.put_picture.new.out in
    let shown = with_piece old one two said drawn.0 c.in_ok-put_said.ensures drawn.1 in (
      drawn.0,
      with_piece old two (string_bytes c.push_str.new.self) (said ++ drawn.0) AFTER_CHANGE.now shown
          c.in_ok-push_str.ensures.bytes,
      drawn.2,
    )
