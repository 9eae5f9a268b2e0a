use Rattle.std.proofs.Common.{◌≡◌, length, arith, ap, refl, sym, ◌∙◌}
use Rattle.std.proofs.lemmas.Result.{err_from_is_err_and}
use Rattle.pb_converge.proofs.DriveLemmas.{driven-append, driven-none}
use Rattle.pb_converge.proofs.TickLemmas.{ticked-none, ticked-more, bridge_is, driven-ticks, has_ticked}
use Rattle.pb_converge.proofs.converging.tick_all.Goals as goal

pub loop-place-init : goal.loop-place-init
loop-place-init c = record { done = ticked-none c.args.net.now; plan = c.requires.plan }

pub tick-requires : goal.tick-requires
tick-requires c =
    let plan = c.loop-place.invariant.plan in
    bridge_is c.loop-place.net.plan.bridges c.loop-place.place c.len-place-end.result
    (c.len-place-end.ensures ∙ ap (λ p. length p.bridges) (sym plan)) c.loop-place-test.true

pub returns-in_err-tick-clause-err : goal.returns-in_err-tick-clause-err
returns-in_err-tick-clause-err c =
    let p = err_from_is_err_and c.from_residual.result c.from_residual.ensures.1 in
    let before = c.loop-place.invariant in
    rw p.1 (driven-append 1 0 c.args.net.now c.loop-place.net c.tick.new.net (omega arith) refl
    (driven-ticks c.loop-place.place c.args.net.now c.loop-place.net before.done)
    (driven-none 0 c.loop-place.net c.tick.new.net c.in_err-tick.ensures.err))

pub loop-place-preserved : goal.loop-place-preserved
loop-place-preserved c =
    let before = c.loop-place.invariant in
    record {
      done = ticked-more c.loop-place.place c.args.net.now c.loop-place.net c.tick.new.net before.done
          c.in_ok-tick.ensures.ok;
      plan = c.in_ok-tick.ensures.plan ∙ before.plan;
    }

pub returns-clause-ok : goal.returns-clause-ok
returns-clause-ok c =
    let e : c.loop-place.place ≡ c.len-place-end.result =
    omega (arith, c.loop-place-test.false, c.loop-place.auto.place-end) in
    has_ticked c.loop-place.place c.args.net.now c.loop-place.net
    (e ∙ c.len-place-end.ensures ∙ ap (λ p. length p.bridges) (sym c.requires.plan)) c.loop-place.invariant.done
