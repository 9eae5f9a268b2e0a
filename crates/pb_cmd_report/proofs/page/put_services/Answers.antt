use Rattle.std.proofs.Common.{flat_map, string_bytes}
use Rattle.pb_names.proofs.TextLemmas.{join_three}
use Rattle.pb_cmd_report.specs.Html.{table_of}
use Rattle.pb_cmd_report.specs.Tables.{service_row}
use Rattle.pb_cmd_report.specs.declared.texts.TheConstants.{SERVICES, TABLE_END}
use Rattle.pb_cmd_report.proofs.page.put_services.Goals as goal

pub returns : goal.returns
unfolding table_of
returns c =
    let base = c.args.base.now in
    let row = service_row c.args.plan.now base.shape in
    let told = rw c.as_slice.ensures at c.in_ok-put_service_rows.ensures in
    join_three (string_bytes c.args.out.now) SERVICES.now (flat_map row base.impact.views)
    TABLE_END.now
    (string_bytes c.push_str.new.self) (string_bytes c.put_service_rows.new.out) (string_bytes c.push_str-2.new.self)
    c.in_ok-push_str.ensures.bytes told c.in_ok-push_str-2.ensures.bytes
