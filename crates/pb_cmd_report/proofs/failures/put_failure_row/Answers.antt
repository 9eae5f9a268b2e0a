use Rattle.std.proofs.Common.{◌++◌, string_bytes, codes}
use Rattle.pb_frame.proofs.TextLemmas.{with_piece}
use Rattle.pb_cmd_report.specs.Html.{row_of}
use Rattle.pb_cmd_report.specs.States.{states_data}
use Rattle.pb_cmd_report.specs.Failures.{failure_cells, failure_row}
use Rattle.pb_cmd_report.proofs.failures.put_failure_row.Goals as goal

pub returns : goal.returns
unfolding failure_row row_of
returns c =
    let old = string_bytes c.args.out.now in
    let plan = c.args.plan.now in
    let o = c.args.analysis.now in
    let s0 = string_bytes c.push_str.new.self in
    let p0 = codes "<tr" in
    let s1 = string_bytes c.put_states.new.out in
    let p1 = states_data plan o.shape o.impact.failure in
    let s2 = string_bytes c.push_str-2.new.self in
    let p2 = codes ">" in
    let s3 = string_bytes c.put_failure_cells.new.out in
    let p3 = failure_cells plan c.args.base.now o.impact in
    let s4 = string_bytes c.push_str-3.new.self in
    let p4 = codes "</tr>\n" in
    let f0 = c.in_ok-push_str.ensures.bytes in
    let f1 = with_piece old s0 s1 p0 p1 f0 (c.in_ok-put_states.ensures) in
    let f2 = with_piece old s1 s2 (p0 ++ p1) p2 f1 (c.in_ok-push_str-2.ensures.bytes) in
    let f3 = with_piece old s2 s3 (p0 ++ p1 ++ p2) p3 f2 (c.in_ok-put_failure_cells.ensures) in
    with_piece old s3 s4 (p0 ++ p1 ++ p2 ++ p3) p4 f3 (c.in_ok-push_str-3.ensures.bytes)
