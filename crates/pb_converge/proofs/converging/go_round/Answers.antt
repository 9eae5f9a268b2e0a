use Rattle.std.proofs.Common.{arith, subst, sym}
use Rattle.std.proofs.lemmas.Result.{err_from_is_err_and}
use Rattle.pb_converge.proofs.TickLemmas.{failed-later}
use Rattle.pb_converge.specs.Drives.{HasFailed}
use Rattle.pb_converge.proofs.converging.go_round.Goals as goal

pub returns-in_err-done-clause-err : goal.returns-in_err-done-clause-err
returns-in_err-done-clause-err c =
    let p = err_from_is_err_and c.from_residual.result c.from_residual.ensures.1 in
    let before = c.loop-tick.invariant in
    let new = c.round.new.net in
    let f = failed-later c.loop-tick._tick c.args.ticks c.args.events c.loop-tick.done c.in_err-done.field-0.0 c.args.net.now
    c.loop-tick.net new (omega (arith, c.loop-tick-test.true)) before.rounds before.within c.in_err-done.ensures.err in
    rw p.1 (subst (λ e. HasFailed c.args.ticks c.args.events e c.args.net.now new) (sym p.2) f)
