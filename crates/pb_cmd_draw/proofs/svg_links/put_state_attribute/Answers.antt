use Rattle.std.proofs.Common.{◌∙◌, append_assoc}
use Rattle.pb_cmd_draw.specs.SvgLinks.{state_attribute}
use Rattle.pb_cmd_draw.proofs.svg_links.put_state_attribute.Goals as goal

pub returns : goal.returns
unfolding state_attribute
returns c = (rw c.link_word-word.ensures at c.in_ok-write.ensures.bytes) ∙ simp append_assoc
