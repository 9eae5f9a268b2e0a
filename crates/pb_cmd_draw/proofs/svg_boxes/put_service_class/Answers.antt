use Rattle.std.proofs.Common.{◌∙◌, append_assoc}
use Rattle.pb_cmd_draw.proofs.svg_boxes.put_service_class.Goals as goal

pub returns : goal.returns
returns c = (rw (c.colour_of-colour.ensures, c.dashes_of-dashes.ensures, c.tone_word-tone.ensures) at
    c.in_ok-write.ensures.bytes) ∙ simp append_assoc
