use Rattle.std.proofs.Common.{◌++◌, string_bytes}
use Rattle.pb_frame.proofs.TextLemmas.{with_piece}
use Rattle.pb_cmd_report.specs.Html.{escaped}
use Rattle.pb_cmd_report.specs.Pages.{source_text}
use Rattle.pb_cmd_report.specs.declared.script.TheConstants.{SCRIPT}
use Rattle.pb_cmd_report.specs.declared.texts.TheConstants.{BEFORE_PLAN, AFTER_PLAN}
use Rattle.pb_cmd_report.proofs.page.put_source.Goals as goal

pub returns : goal.returns
unfolding source_text
returns c =
    let old = string_bytes c.args.out.now in
    let s0 = string_bytes c.push_str.new.self in
    let p0 = BEFORE_PLAN.now in
    let s1 = string_bytes c.put_escaped.new.out in
    let p1 = escaped c.args.source.now in
    let s2 = string_bytes c.push_str-2.new.self in
    let p2 = AFTER_PLAN.now in
    let s3 = string_bytes c.push_str-3.new.self in
    let p3 = SCRIPT.now in
    let f0 = c.in_ok-push_str.ensures.bytes in
    let f1 = with_piece old s0 s1 p0 p1 f0 (c.in_ok-put_escaped.ensures) in
    let f2 = with_piece old s1 s2 (p0 ++ p1) p2 f1 (c.in_ok-push_str-2.ensures.bytes) in
    with_piece old s2 s3 (p0 ++ p1 ++ p2) p3 f2 (c.in_ok-push_str-3.ensures.bytes)
