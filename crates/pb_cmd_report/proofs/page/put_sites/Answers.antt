use Rattle.std.proofs.Common.{flat_map, string_bytes}
use Rattle.pb_names.proofs.TextLemmas.{join_three}
use Rattle.pb_cmd_report.specs.Html.{table_of}
use Rattle.pb_cmd_report.specs.Tables.{site_row}
use Rattle.pb_cmd_report.specs.declared.texts.TheConstants.{SITES, TABLE_END}
use Rattle.pb_cmd_report.proofs.page.put_sites.Goals as goal

pub returns : goal.returns
unfolding table_of
returns c =
    join_three (string_bytes c.args.out.now) SITES.now (flat_map (site_row c.args.plan.now) c.args.plan.now.customers)
    TABLE_END.now
    (string_bytes c.push_str.new.self) (string_bytes c.put_site_rows.new.out) (string_bytes c.push_str-2.new.self)
    c.in_ok-push_str.ensures.bytes c.in_ok-put_site_rows.ensures c.in_ok-push_str-2.ensures.bytes
