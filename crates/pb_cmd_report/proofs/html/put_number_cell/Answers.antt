use Rattle.std.proofs.Common.{◌∙◌, append_assoc}
use Rattle.pb_cmd_report.specs.Html.{number_cell}
use Rattle.pb_cmd_report.proofs.html.put_number_cell.Goals as goal

pub returns : goal.returns
unfolding number_cell
returns c = c.in_ok-write.ensures.bytes ∙ simp append_assoc
