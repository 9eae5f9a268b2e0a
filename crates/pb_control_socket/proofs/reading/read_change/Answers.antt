use Rattle.pb_control_socket.proofs.RequestLemmas.{if_none, asks_nothing}
use Rattle.pb_control_socket.proofs.reading.read_change.Goals as goal

pub returns-in-None-clause-none : goal.returns-in-None-clause-none
returns-in-None-clause-none c =
    if_none c.read_part.result (asks_nothing c.args.plan.now c.args.words.now c.args.up c.in-None.ensures.none)
    c.read_part.ensures.none
