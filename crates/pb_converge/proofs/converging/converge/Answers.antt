use Rattle.pb_converge.proofs.LimitLemmas.{failed-told}
use Rattle.pb_converge.proofs.converging.converge.Goals as goal

pub returns-in-Err-clause-err : goal.returns-in-Err-clause-err
returns-in-Err-clause-err c =
    failed-told c.args.most c.args.events c.in-Err.fault c.fault_in.result c.args.net.now c.rounds.new.net
    c.fault_in.ensures.fault c.in-Err.ensures.err
