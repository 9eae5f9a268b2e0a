use Rattle.std.proofs.Common.{◌∙◌, append_assoc}
use Rattle.pb_trace_svg.proofs.svg_hops.put_box.Goals as goal

pub returns : goal.returns
returns c = c.in_ok-write.ensures.bytes ∙ simp append_assoc
