use Rattle.std.proofs.Common.{◌∙◌, append_assoc}
use Rattle.pb_cmd_draw.proofs.svg_links.put_end_data.Goals as goal

pub returns : goal.returns
returns c = (rw (c.end_word-word.ensures, c.bridge_name-bridge.ensures) at c.in_ok-write.ensures.bytes)
    ∙ simp append_assoc
