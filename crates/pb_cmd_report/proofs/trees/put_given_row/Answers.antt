use Rattle.std.proofs.Common.{◌++◌, string_bytes, codes}
use Rattle.pb_frame.proofs.TextLemmas.{with_piece}
use Rattle.pb_cmd_report.specs.Html.{row_of}
use Rattle.pb_cmd_report.specs.Trees.{given_cells, given_words}
use Rattle.pb_cmd_report.proofs.trees.put_given_row.Goals as goal

pub returns : goal.returns
unfolding given_words row_of
returns c =
    let old = string_bytes c.args.out.now in
    let cells = given_cells c.args.plan.now c.args.shape.now c.args.bridge c.args.port c.args.link.now in
    let one = string_bytes c.push_str.new.self in
    let two = string_bytes c.put_given_cells.new.out in
    let shown = with_piece old one two (codes "<tr>") cells c.in_ok-push_str.ensures.bytes
    c.in_ok-put_given_cells.ensures in
    with_piece old two (string_bytes c.push_str-2.new.self) (codes "<tr>" ++ cells) (codes "</tr>\n") shown
    c.in_ok-push_str-2.ensures.bytes
