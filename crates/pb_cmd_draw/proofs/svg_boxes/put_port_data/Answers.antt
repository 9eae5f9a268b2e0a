use Rattle.std.proofs.Common.{◌∙◌, append_assoc}
use Rattle.pb_cmd_draw.specs.SvgBoxes.{port_data}
use Rattle.pb_cmd_draw.proofs.svg_boxes.put_port_data.Goals as goal

pub returns : goal.returns
unfolding port_data
returns c = (rw (c.as_str-name.ensures, c.bridge_name-bridge.ensures, c.site_word-state.ensures) at
    c.in_ok-write.ensures.bytes) ∙ simp append_assoc
