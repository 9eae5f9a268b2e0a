use Rattle.pb_cmd_draw.proofs.lists.put_next_name.Goals as goal

pub returns : goal.returns
returns c = rw c.service_name-name.ensures at c.in_ok-write.ensures.bytes
