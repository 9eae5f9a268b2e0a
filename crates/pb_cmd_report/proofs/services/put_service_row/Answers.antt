use Rattle.std.proofs.Common.{◌++◌, string_bytes, codes}
use Rattle.pb_frame.proofs.TextLemmas.{with_piece}
use Rattle.pb_cmd_report.specs.Html.{row_of}
use Rattle.pb_cmd_report.specs.Tables.{service_cells, service_row}
use Rattle.pb_cmd_report.proofs.services.put_service_row.Goals as goal

pub returns : goal.returns
unfolding service_row row_of
returns c =
    let old = string_bytes c.args.out.now in
    let plan = c.args.plan.now in
    let s0 = string_bytes c.push_str.new.self in
    let p0 = codes "<tr>" in
    let s1 = string_bytes c.put_service_cells.new.out in
    let p1 = service_cells plan c.args.shape.now c.args.view.now in
    let s2 = string_bytes c.push_str-2.new.self in
    let p2 = codes "</tr>\n" in
    let f0 = c.in_ok-push_str.ensures.bytes in
    let f1 = with_piece old s0 s1 p0 p1 f0 (c.in_ok-put_service_cells.ensures) in
    with_piece old s1 s2 (p0 ++ p1) p2 f1 (c.in_ok-push_str-2.ensures.bytes)
