use Rattle.std.proofs.Common.{codes, string_bytes}
use Rattle.pb_names.proofs.TextLemmas.{join_three}
use Rattle.pb_cmd_report.specs.Html.{escaped, cell_of}
use Rattle.pb_cmd_report.proofs.html.put_cell.Goals as goal

pub returns : goal.returns
unfolding cell_of
returns c =
    join_three (string_bytes c.args.out.now) (codes "<td>") (escaped c.args.text.now) (codes "</td>")
    (string_bytes c.push_str.new.self) (string_bytes c.put_escaped.new.out) (string_bytes c.push_str-2.new.self)
    c.in_ok-push_str.ensures.bytes c.in_ok-put_escaped.ensures c.in_ok-push_str-2.ensures.bytes
