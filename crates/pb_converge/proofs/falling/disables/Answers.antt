use Rattle.pb_converge.proofs.LimitLemmas.{broken-told}
use Rattle.pb_converge.specs.Falls.{downs}
use Rattle.pb_converge.proofs.falling.disables.Goals as goal

pub returns-in-Err-clause-err : goal.returns-in-Err-clause-err
returns-in-Err-clause-err c =
    broken-told (downs c.args.plan.now c.args.names.now) c.in-Err.fault c.fault_in.result c.args.net.now c.fall_all.new.net c.fault_in.ensures.fault
    c.in-Err.ensures.falls
