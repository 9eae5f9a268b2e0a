use Rattle.pb_cmd_draw.proofs.dot.put_edge_name.Goals as goal

pub returns : goal.returns
returns c = rw (c.as_str-name.ensures, c.losing_word-losing.ensures) at c.in_ok-write.ensures.bytes
