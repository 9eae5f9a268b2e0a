use Rattle.std.proofs.Common.{◌∙◌, append_assoc}
use Rattle.pb_cmd_draw.proofs.dot.put_node_head.Goals as goal

pub returns : goal.returns
returns c = (rw c.node_style-style.ensures at c.in_ok-write.ensures.bytes) ∙ simp append_assoc
