use Rattle.std.proofs.Common.{◌++◌, string_bytes}
use Rattle.pb_frame.proofs.TextLemmas.{with_piece, last_piece}
use Rattle.pb_cmd_survive.specs.Reports.{failure_text}
use Rattle.pb_cmd_report.specs.Html.{cell_of}
use Rattle.pb_cmd_report.specs.Words.{convergence_words}
use Rattle.pb_cmd_report.specs.Failures.{loops_text, disconnected_text}
use Rattle.pb_cmd_report.proofs.failures.put_failure_cells.Goals as goal

pub returns : goal.returns
returns c =
    let old = string_bytes c.args.out.now in
    let plan = c.args.plan.now in
    let o = c.args.impact.now in
    let s0 = string_bytes c.put_failure_cell.new.out in
    let p0 = cell_of (failure_text plan o.failure) in
    let s1 = string_bytes c.put_convergence_cell.new.out in
    let p1 = cell_of (convergence_words o.convergence) in
    let s2 = string_bytes c.put_loops_cell.new.out in
    let p2 = cell_of (loops_text plan o.views) in
    let f0 = c.in_ok-put_failure_cell.ensures in
    let f1 = with_piece old s0 s1 p0 p1 f0 (c.in_ok-put_convergence_cell.ensures) in
    let f2 = with_piece old s1 s2 (p0 ++ p1) p2 f1 (rw c.as_slice.ensures at c.in_ok-put_loops_cell.ensures) in
    last_piece c.put_disconnected_cell.result old s2 (string_bytes c.put_disconnected_cell.new.out) (p0 ++ p1 ++ p2)
    (cell_of (disconnected_text plan c.args.base.now o)) f2 (c.put_disconnected_cell.ensures)
