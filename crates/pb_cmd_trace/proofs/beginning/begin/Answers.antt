use Rattle.std.proofs.Common.{◌≤◌, arith, subst, sym, unwrap_or}
use Rattle.std.proofs.lemmas.Result.{err_from_is_err_and}
use Rattle.pb_converge.proofs.LimitLemmas.{caused-failed, caused-lower}
use Rattle.pb_converge.specs.Drives.{IsCaused}
use Rattle.pb_cmd_trace.proofs.beginning.begin.Goals as goal

pub returns-in_err-convergence-clause-err : goal.returns-in_err-convergence-clause-err
returns-in_err-convergence-clause-err c =
    let p = err_from_is_err_and c.from_residual.result c.from_residual.ensures.1 in
    let old = c.args.net.now in
    let fault = c.in_err-convergence.field-0.0 in
    let most = c.args.most in
    let ticks : c.in-Some.ticks ≤ unwrap_or most 0 = subst (λ m. c.in-Some.ticks ≤ unwrap_or m 0) (sym c.in-Some.is)
    (omega arith) in
    let caused : IsCaused (unwrap_or most 0) 0 0 1000000 fault old =
    caused-lower c.in-Some.ticks 0 0 (unwrap_or most 0) 0 0 1000000000 1000000 fault old ticks (omega arith)
    (omega arith) (omega arith)
    (caused-failed c.in-Some.ticks 1000000000 fault old c.converge.new.net c.in_err-convergence.ensures.enough
    c.in_err-convergence.ensures.err) in
    rw p.1 (subst (λ e. IsCaused (unwrap_or most 0) 0 0 1000000 e old) (sym p.2) caused)
