use Rattle.pb_control_socket.proofs.RequestLemmas.{reads_set}
use Rattle.pb_control_socket.proofs.reading.read_request.Goals as goal

pub returns-in-None : goal.returns-in-None
returns-in-None c =
    reads_set c.args.plan.now c.args.line.now c.read_set.result c.in-None.ensures.none c.read_set.ensures.read
    c.read_set.ensures.unset c.read_set.ensures.unshown

pub returns-in-Some : goal.returns-in-Some
returns-in-Some c = c.in-Some.ensures.some c.args.plan.now
