use Rattle.pb_converge.proofs.LimitLemmas.{failed-told}
use Rattle.pb_converge.proofs.converging.stand.Goals as goal

pub returns-in-Err-clause-err : goal.returns-in-Err-clause-err
returns-in-Err-clause-err c =
    failed-told c.args.ticks c.args.events c.in-Err.fault c.fault_in.result c.args.net.now c.go_round.new.net
    c.fault_in.ensures.fault c.in-Err.ensures.err
