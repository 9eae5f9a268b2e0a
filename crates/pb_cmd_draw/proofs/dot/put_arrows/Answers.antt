use Rattle.std.proofs.Common.{◌∙◌, append_assoc}
use Rattle.pb_cmd_draw.proofs.dot.put_arrows.Goals as goal

pub returns : goal.returns
returns c = (rw (c.arrow_word-tail.ensures, c.arrow_word-head.ensures, c.active_style-style.ensures) at
    c.in_ok-write.ensures.bytes) ∙ simp append_assoc
