use Rattle.std.proofs.Common.{◌∙◌, append_assoc}
use Rattle.pb_cmd_draw.specs.SvgBoxes.{port_class}
use Rattle.pb_cmd_draw.proofs.svg_boxes.put_port_class.Goals as goal

pub returns : goal.returns
unfolding port_class
returns c = (rw (
  c.site_word-state.ensures,
  c.colour_of-colour.ensures,
  c.dashes_of-dashes.ensures,
  c.tone_word-tone.ensures,
) at c.in_ok-write.ensures.bytes) ∙ simp append_assoc
