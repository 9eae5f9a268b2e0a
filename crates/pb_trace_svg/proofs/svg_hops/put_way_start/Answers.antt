use Rattle.std.proofs.Common.{◌∙◌, append_assoc}
use Rattle.pb_trace_svg.proofs.svg_hops.put_way_start.Goals as goal

pub returns : goal.returns
returns c = (rw c.kind_word-word.ensures at c.in_ok-write.ensures.bytes) ∙ simp append_assoc
