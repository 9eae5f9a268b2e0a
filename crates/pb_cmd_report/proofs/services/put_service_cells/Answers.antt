use Rattle.std.proofs.Common.{◌++◌, string_bytes}
use Rattle.pb_frame.proofs.TextLemmas.{with_piece, last_piece}
use Rattle.pb_names.specs.Names.{service_name}
use Rattle.pb_forest.specs.ServiceVids.{vid_numbered}
use Rattle.pb_cmd_survive.specs.Reports.{groups_text}
use Rattle.pb_cmd_report.specs.Html.{cell_of, number_cell}
use Rattle.pb_cmd_report.specs.Words.{tree_text, health_word}
use Rattle.pb_cmd_report.proofs.services.put_service_cells.Goals as goal

pub returns : goal.returns
returns c =
    let old = string_bytes c.args.out.now in
    let plan = c.args.plan.now in
    let v = c.args.view.now in
    let s0 = string_bytes c.put_cell.new.out in
    let p0 = cell_of (service_name plan v.service) in
    let s1 = string_bytes c.put_number_cell.new.out in
    let p1 = number_cell (vid_numbered plan v.service) in
    let s2 = string_bytes c.put_groups_cell.new.out in
    let p2 = cell_of (groups_text plan v.sites) in
    let s3 = string_bytes c.put_tree_cell.new.out in
    let p3 = cell_of (tree_text plan c.args.shape.now v.service) in
    let f0 = rw c.service_name.ensures at c.in_ok-put_cell.ensures in
    let f1 = with_piece old s0 s1 p0 p1 f0 (rw c.vid_numbered.ensures at c.in_ok-put_number_cell.ensures) in
    let f2 = with_piece old s1 s2 (p0 ++ p1) p2 f1 (rw c.as_slice.ensures at c.in_ok-put_groups_cell.ensures) in
    let f3 = with_piece old s2 s3 (p0 ++ p1 ++ p2) p3 f2 (c.in_ok-put_tree_cell.ensures) in
    last_piece c.put_cell-2.result old s3 (string_bytes c.put_cell-2.new.out) (p0 ++ p1 ++ p2 ++ p3)
    (cell_of (health_word v)) f3 (rw c.health_word.ensures at c.put_cell-2.ensures)
