use Rattle.std.proofs.Common.{◌∙◌, append_assoc}
use Rattle.pb_cmd_draw.specs.SvgBoxes.{box_data}
use Rattle.pb_cmd_draw.proofs.svg_boxes.put_box_data.Goals as goal

pub returns : goal.returns
unfolding box_data
returns c = (rw (c.role_of-role.ensures, c.bridge_word-state.ensures) at c.in_ok-write.ensures.bytes)
    ∙ simp append_assoc
