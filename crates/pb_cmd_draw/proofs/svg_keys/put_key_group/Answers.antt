use Rattle.std.proofs.Common.{◌∙◌, append_assoc}
use Rattle.pb_cmd_draw.proofs.svg_keys.put_key_group.Goals as goal

pub returns : goal.returns
returns c = (rw c.key_word-word.ensures at c.in_ok-write.ensures.bytes) ∙ simp append_assoc
