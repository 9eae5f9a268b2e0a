use Rattle.std.proofs.Common.{◌∙◌, append_assoc}
use Rattle.pb_cmd_draw.specs.SvgLinks.{end_attribute}
use Rattle.pb_cmd_draw.proofs.svg_links.put_end_attribute.Goals as goal

pub returns : goal.returns
unfolding end_attribute
returns c = (rw c.bridge_name-bridge.ensures at c.in_ok-write.ensures.bytes) ∙ simp append_assoc
