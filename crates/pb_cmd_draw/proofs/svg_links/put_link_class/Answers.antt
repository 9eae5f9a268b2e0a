use Rattle.std.proofs.Common.{◌∙◌, append_assoc}
use Rattle.pb_cmd_draw.specs.SvgLinks.{link_class}
use Rattle.pb_cmd_draw.proofs.svg_links.put_link_class.Goals as goal

pub returns : goal.returns
unfolding link_class
returns c = (rw (c.link_word-state.ensures, c.tone_word-tone.ensures) at c.in_ok-write.ensures.bytes)
    ∙ simp append_assoc
