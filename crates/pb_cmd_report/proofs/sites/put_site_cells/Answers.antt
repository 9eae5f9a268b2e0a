use Rattle.std.proofs.Common.{◌++◌, string_bytes}
use Rattle.pb_frame.proofs.TextLemmas.{with_piece, last_piece}
use Rattle.pb_names.specs.Names.{service_name, bridge_name}
use Rattle.pb_cmd_report.specs.Html.{cell_of, number_cell}
use Rattle.pb_cmd_report.proofs.sites.put_site_cells.Goals as goal

pub returns : goal.returns
returns c =
    let old = string_bytes c.args.out.now in
    let plan = c.args.plan.now in
    let site = c.args.site.now in
    let s0 = string_bytes c.put_cell.new.out in
    let p0 = cell_of site.name in
    let s1 = string_bytes c.put_cell-2.new.out in
    let p1 = cell_of (service_name plan site.service) in
    let s2 = string_bytes c.put_cell-3.new.out in
    let p2 = cell_of (bridge_name plan site.bridge) in
    let f0 = rw c.as_str.ensures at c.in_ok-put_cell.ensures in
    let f1 = with_piece old s0 s1 p0 p1 f0 (rw c.service_name.ensures at c.in_ok-put_cell-2.ensures) in
    let f2 = with_piece old s1 s2 (p0 ++ p1) p2 f1 (rw c.bridge_name.ensures at c.in_ok-put_cell-3.ensures) in
    last_piece c.put_number_cell.result old s2 (string_bytes c.put_number_cell.new.out) (p0 ++ p1 ++ p2)
    (number_cell site.port) f2 (c.put_number_cell.ensures)
