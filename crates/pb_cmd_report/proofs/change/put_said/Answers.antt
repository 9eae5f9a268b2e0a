use Rattle.std.proofs.Common.{◌++◌, string_bytes}
use Rattle.pb_frame.proofs.TextLemmas.{with_piece}
use Rattle.pb_cmd_report.specs.Changes.{said_text}
use Rattle.pb_cmd_report.specs.Html.{escaped}
use Rattle.pb_cmd_report.specs.declared.texts.TheConstants.{CHANGE, AFTER_OLD_TITLE, BEFORE_OLD_PICTURE}
use Rattle.pb_cmd_report.proofs.change.put_said.Goals as goal

pub returns : goal.returns
unfolding said_text
returns c =
    let old = string_bytes c.args.out.now in
    let title = escaped c.args.title.now in
    let said = escaped c.args.said.now in
    let one = string_bytes c.push_str.new.self in
    let two = string_bytes c.put_escaped.new.out in
    let three = string_bytes c.push_str-2.new.self in
    let four = string_bytes c.put_octets.new.out in
    let titled = with_piece old one two CHANGE.now title c.in_ok-push_str.ensures.bytes c.in_ok-put_escaped.ensures in
    let opened = with_piece old two three (CHANGE.now ++ title) AFTER_OLD_TITLE.now titled
    c.in_ok-push_str-2.ensures.bytes in
    let told = with_piece old three four (CHANGE.now ++ title ++ AFTER_OLD_TITLE.now) said opened
    c.in_ok-put_octets.ensures in
    with_piece old four (string_bytes c.push_str-3.new.self) (CHANGE.now ++ title ++ AFTER_OLD_TITLE.now ++ said)
    BEFORE_OLD_PICTURE.now told c.in_ok-push_str-3.ensures.bytes
