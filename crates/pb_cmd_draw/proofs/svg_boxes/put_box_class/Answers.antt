use Rattle.std.proofs.Common.{◌∙◌, append_assoc}
use Rattle.pb_cmd_draw.specs.SvgBoxes.{box_class}
use Rattle.pb_cmd_draw.proofs.svg_boxes.put_box_class.Goals as goal

pub returns : goal.returns
unfolding box_class
returns c = (rw (c.bridge_word-state.ensures, c.tone_word-tone.ensures) at c.in_ok-write.ensures.bytes)
    ∙ simp append_assoc
