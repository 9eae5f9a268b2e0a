use Rattle.std.proofs.Common.{◌++◌, string_bytes}
use Rattle.std.proofs.lemmas.Result.{on_ok_weaker}
use Rattle.pb_frame.proofs.TextLemmas.{with_piece}
use Rattle.pb_cmd_report.specs.Html.{table_of}
use Rattle.pb_cmd_report.specs.Pages.{failures_table, services_table, sites_table}
use Rattle.pb_cmd_report.specs.declared.texts.TheConstants.{TREE}
use Rattle.pb_cmd_report.proofs.page.put_tables.Goals as goal

pub returns : goal.returns
returns c =
    let plan = c.args.standing.now.plan.now in
    let base = c.args.base.now in
    let old = string_bytes c.args.out.now in
    let failures = failures_table plan base c.args.analyses.now in
    let services = services_table plan base in
    let sites = sites_table plan in
    let one = string_bytes c.put_failures.new.out in
    let two = string_bytes c.put_services.new.out in
    let three = string_bytes c.put_sites.new.out in
    let served = with_piece old one two failures services c.in_ok-put_failures.ensures c.in_ok-put_services.ensures in
    let sited = with_piece old two three (failures ++ services) sites served c.in_ok-put_sites.ensures in
    on_ok_weaker c.put_tree.result
    (λ t. (
      t.0,
      with_piece old three (string_bytes c.put_tree.new.out) (failures ++ services ++ sites) (table_of TREE.now t.0)
          sited
          t.1,
      t.2,
    )) c.put_tree.ensures
