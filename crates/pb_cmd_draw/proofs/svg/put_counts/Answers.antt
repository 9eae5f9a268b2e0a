use Rattle.std.proofs.Common.{◌∙◌, append_assoc}
use Rattle.pb_cmd_draw.proofs.svg.put_counts.Goals as goal

pub returns : goal.returns
returns c = (rw (c.len-bridges.ensures, c.len-links.ensures) at c.in_ok-write.ensures.bytes) ∙ simp append_assoc
