use Rattle.std.proofs.Common.{◌++◌, string_bytes}
use Rattle.pb_frame.proofs.TextLemmas.{with_piece}
use Rattle.pb_cmd_report.specs.Html.{escaped}
use Rattle.pb_cmd_report.specs.Pages.{head_text}
use Rattle.pb_cmd_report.specs.declared.style.TheConstants.{STYLE}
use Rattle.pb_cmd_report.specs.declared.texts.TheConstants.{HEAD, TITLE, AFTER_TITLE}
use Rattle.pb_cmd_report.proofs.page.put_head.Goals as goal

pub returns : goal.returns
unfolding head_text
returns c =
    let old = string_bytes c.args.out.now in
    let title = escaped c.args.title.now in
    let one = string_bytes c.push_str.new.self in
    let two = string_bytes c.push_str-2.new.self in
    let three = string_bytes c.push_str-3.new.self in
    let four = string_bytes c.put_escaped.new.out in
    let style = with_piece old one two HEAD.now STYLE.now c.in_ok-push_str.ensures.bytes
    c.in_ok-push_str-2.ensures.bytes in
    let before = with_piece old two three (HEAD.now ++ STYLE.now) TITLE.now style c.in_ok-push_str-3.ensures.bytes in
    let titled = with_piece old three four (HEAD.now ++ STYLE.now ++ TITLE.now) title before
    c.in_ok-put_escaped.ensures in
    with_piece old four (string_bytes c.push_str-4.new.self) (HEAD.now ++ STYLE.now ++ TITLE.now ++ title)
    AFTER_TITLE.now titled c.in_ok-push_str-4.ensures.bytes
