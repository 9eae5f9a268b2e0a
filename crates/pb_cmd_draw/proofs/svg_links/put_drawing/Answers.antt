use Rattle.std.proofs.Common.{◌∙◌, append_assoc}
use Rattle.pb_cmd_draw.proofs.svg_links.put_drawing.Goals as goal

pub returns : goal.returns
returns c = (rw c.end_mark-mark.ensures at c.in_ok-write.ensures.bytes) ∙ simp append_assoc
