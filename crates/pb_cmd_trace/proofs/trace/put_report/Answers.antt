use Rattle.std.proofs.Common.{◌++◌, flat_map, string_bytes}
use Rattle.pb_frame.proofs.TextLemmas.{last_piece, with_piece}
use Rattle.pb_cmd_trace.specs.Lines.{line_text}
use Rattle.pb_cmd_trace.specs.Traces.{end_lines, head_text}
use Rattle.pb_cmd_trace.proofs.trace.put_report.Goals as goal

pub returns : goal.returns
returns c =
    let plan = c.args.plan.now in
    let report = c.args.report.now in
    let old = string_bytes c.args.out.now in
    let lined = string_bytes c.put_lines.new.out in
    let head = head_text report.convergence in
    let lines = flat_map (line_text plan) report.lines in
    let with_lines = with_piece old (string_bytes c.put_head.new.out) lined head lines c.in_ok-put_head.ensures
    (rw c.as_slice.ensures at c.in_ok-put_lines.ensures) in
    last_piece c.put_end.result old lined (string_bytes c.put_end.new.out) (head ++ lines)
    (end_lines plan report.record report.round) with_lines c.put_end.ensures
