use Rattle.std.proofs.Common.{subst, sym}
use Rattle.std.proofs.lemmas.Result.{IfErr-weaker, err_from_is_err_and}
use Rattle.pb_converge.proofs.TickLemmas.{failed-stopped, failed-ticks}
use Rattle.pb_converge.specs.Drives.{HasFailed}
use Rattle.pb_converge.proofs.converging.round.Goals as goal

pub returns-in_err-tick_all-clause-err : goal.returns-in_err-tick_all-clause-err
returns-in_err-tick_all-clause-err c =
    let p = err_from_is_err_and c.from_residual.result c.from_residual.ensures.1 in
    let new = c.tick_all.new.net in
    let f = failed-ticks c.args.left c.in_err-tick_all.field-0.0 c.args.net.now new c.in_err-tick_all.ensures.err
    c.in_err-tick_all.ensures.refusal in
    rw p.1 (subst (λ e. HasFailed 1 c.args.left e c.args.net.now new) (sym p.2) f)

pub returns-clause-err : goal.returns-clause-err
returns-clause-err c = IfErr-weaker c.drain.result _ _
    (λ fault s. failed-stopped c.args.left fault c.args.net.now c.tick_all.new.net c.drain.new.net
    c.in_ok-tick_all.ensures.ok s) c.drain.ensures.err
