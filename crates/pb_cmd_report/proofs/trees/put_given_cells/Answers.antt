use Rattle.std.proofs.Common.{◌++◌, string_bytes, []}
use Rattle.pb_frame.proofs.TextLemmas.{with_piece, last_piece}
use Rattle.pb_names.specs.Names.{bridge_name, state_word}
use Rattle.pb_lan.specs.Shapes.{state_in}
use Rattle.pb_cmd_report.specs.Html.{cell_of, number_cell}
use Rattle.pb_cmd_report.proofs.trees.put_given_cells.Goals as goal

pub returns : goal.returns
returns c =
    let old = string_bytes c.args.out.now in
    let plan = c.args.plan.now in
    let s0 = string_bytes c.put_cell.new.out in
    let p0 = cell_of (bridge_name plan c.args.bridge) in
    let s1 = string_bytes c.put_number_cell.new.out in
    let p1 = number_cell c.args.port in
    let s2 = string_bytes c.put_cell-2.new.out in
    let p2 = cell_of c.args.link.now.name in
    let s3 = string_bytes c.put_cell-3.new.out in
    let p3 = cell_of [] in
    let f0 = rw c.bridge_name.ensures at c.in_ok-put_cell.ensures in
    let f1 = with_piece old s0 s1 p0 p1 f0 (c.in_ok-put_number_cell.ensures) in
    let f2 = with_piece old s1 s2 (p0 ++ p1) p2 f1 (rw c.as_str.ensures at c.in_ok-put_cell-2.ensures) in
    let f3 = with_piece old s2 s3 (p0 ++ p1 ++ p2) p3 f2 (c.in_ok-put_cell-3.ensures) in
    last_piece c.put_cell-4.result old s3 (string_bytes c.put_cell-4.new.out) (p0 ++ p1 ++ p2 ++ p3)
    (cell_of (state_word (state_in c.args.shape.now c.args.bridge c.args.port))) f3
    (rw (c.state_word.ensures, c.state_in.ensures) at c.put_cell-4.ensures)
