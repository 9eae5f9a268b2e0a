use Rattle.std.proofs.Common.{◌++◌, string_bytes}
use Rattle.pb_frame.proofs.TextLemmas.{with_piece, last_piece}
use Rattle.pb_names.specs.Names.{bridge_name, role_word, state_word}
use Rattle.pb_cmd_tree.specs.Names.{id_name, link_name_at, path_cost_at}
use Rattle.pb_cmd_report.specs.Html.{cell_of, number_cell}
use Rattle.pb_cmd_report.proofs.trees.put_port_cells.Goals as goal

pub returns : goal.returns
returns c =
    let old = string_bytes c.args.out.now in
    let plan = c.args.plan.now in
    let bridge = c.args.bridge in
    let p = c.args.shown.now in
    let s0 = string_bytes c.put_cell.new.out in
    let p0 = cell_of (bridge_name plan bridge) in
    let s1 = string_bytes c.put_number_cell.new.out in
    let p1 = number_cell p.port in
    let s2 = string_bytes c.put_cell-2.new.out in
    let p2 = cell_of (link_name_at plan bridge p.port) in
    let s3 = string_bytes c.put_cell-3.new.out in
    let p3 = cell_of (role_word p.role) in
    let s4 = string_bytes c.put_cell-4.new.out in
    let p4 = cell_of (state_word p.state) in
    let s5 = string_bytes c.put_number_cell-2.new.out in
    let p5 = number_cell (path_cost_at plan bridge p.port) in
    let f0 = rw c.bridge_name.ensures at c.in_ok-put_cell.ensures in
    let f1 = with_piece old s0 s1 p0 p1 f0 (c.in_ok-put_number_cell.ensures) in
    let f2 = with_piece old s1 s2 (p0 ++ p1) p2 f1 (rw c.link_name_at.ensures at c.in_ok-put_cell-2.ensures) in
    let f3 = with_piece old s2 s3 (p0 ++ p1 ++ p2) p3 f2 (rw c.role_word.ensures at c.in_ok-put_cell-3.ensures) in
    let f4 = with_piece old s3 s4 (p0 ++ p1 ++ p2 ++ p3) p4 f3 (rw c.state_word.ensures at c.in_ok-put_cell-4.ensures)
    in
    let f5 = with_piece old s4 s5 (p0 ++ p1 ++ p2 ++ p3 ++ p4) p5 f4
    (rw c.path_cost_at.ensures at c.in_ok-put_number_cell-2.ensures) in
    last_piece c.put_id_cell.result old s5 (string_bytes c.put_id_cell.new.out) (p0 ++ p1 ++ p2 ++ p3 ++ p4 ++ p5)
    (cell_of (id_name plan p.from)) f5 (c.put_id_cell.ensures)
