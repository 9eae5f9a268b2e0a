use Rattle.pb_control_socket.proofs.replies.answer.Goals as goal

pub perform-requires : goal.perform-requires
perform-requires g c = c.requires.allowed c.in-Ok.request c.in-Ok.ensures.0 c.in-Ok.ensures.1
