use Rattle.std.proofs.Common.{◌∙◌, append_assoc}
use Rattle.pb_cmd_draw.proofs.svg_keys.put_key_label.Goals as goal

pub returns : goal.returns
returns c = (rw (c.sign_of-sign.ensures, c.label_of-label.ensures) at c.in_ok-write.ensures.bytes) ∙ simp append_assoc
