use Rattle.pb_converge.proofs.LimitLemmas.{caused-stopped, caused-told}
use Rattle.pb_cmd_trace.proofs.frame.finish.Goals as goal

pub returns-in-Err-clause-err : goal.returns-in-Err-clause-err
returns-in-Err-clause-err c =
    let old = c.args.net.now in
    let new = c.drain.new.net in
    let fault = c.in-Err.fault in
    caused-told 0 0 0 1000000 fault c.fault_in.result old new c.fault_in.ensures.fault c.fault_in.ensures.enough
    (λ enough. caused-stopped 1000000 fault old new (λ other. enough) c.in-Err.ensures.err)
