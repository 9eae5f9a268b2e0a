use Rattle.pb_control_socket.proofs.RequestLemmas.{if_none, neither_port}
use Rattle.pb_control_socket.proofs.reading.read_port_at.Goals as goal

pub returns-in-None-clause-none : goal.returns-in-None-clause-none
returns-in-None-clause-none c =
    if_none c.read_colon_port.result (neither_port c.args.plan.now c.args.words.now c.in-None.ensures.none)
    c.read_colon_port.ensures.none
