use Rattle.std.proofs.Common.{◌∙◌, append_assoc}
use Rattle.pb_cmd_draw.specs.SvgLinks.{link_attribute}
use Rattle.pb_cmd_draw.proofs.svg_links.put_link_attribute.Goals as goal

pub returns : goal.returns
unfolding link_attribute
returns c = (rw c.as_str-name.ensures at c.in_ok-write.ensures.bytes) ∙ simp append_assoc
