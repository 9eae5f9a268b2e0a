use Rattle.std.proofs.Common.{◌∙◌, append_assoc}
use Rattle.pb_cmd_draw.proofs.svg_boxes.put_cross_lines.Goals as goal

pub returns : goal.returns
returns c = c.in_ok-write.ensures.bytes ∙ simp append_assoc
