use Rattle.std.proofs.Common.{◌∙◌, append_assoc}
use Rattle.pb_cmd_draw.proofs.svg_boxes.put_service_bar.Goals as goal

pub returns : goal.returns
returns c = (rw c.as_str-name.ensures at c.in_ok-write.ensures.bytes) ∙ simp append_assoc
