use Rattle.std.proofs.Common.{◌∷◌, flat_map, string_bytes}
use Rattle.pb_frame.proofs.TextLemmas.{with_piece}
use Rattle.pb_names.proofs.TextLemmas.{join_three}
use Rattle.pb_cmd_report.specs.Failures.{failure_row}
use Rattle.pb_cmd_report.specs.Html.{table_of}
use Rattle.pb_cmd_report.specs.declared.texts.TheConstants.{FAILURES, TABLE_END}
use Rattle.pb_cmd_report.proofs.page.put_failures.Goals as goal

pub returns : goal.returns
unfolding table_of
returns c =
    let row = failure_row c.args.plan.now c.args.base.now.impact in
    let head = string_bytes c.push_str.new.self in
    let rows = with_piece head (string_bytes c.put_failure_row.new.out) (string_bytes c.put_failure_rows.new.out)
    (row c.args.base.now) (flat_map row c.args.analyses.now) c.in_ok-put_failure_row.ensures
    c.in_ok-put_failure_rows.ensures in
    join_three (string_bytes c.args.out.now) FAILURES.now (flat_map row (c.args.base.now ∷ c.args.analyses.now))
    TABLE_END.now
    head (string_bytes c.put_failure_rows.new.out) (string_bytes c.push_str-2.new.self)
    c.in_ok-push_str.ensures.bytes rows c.in_ok-push_str-2.ensures.bytes
