use Rattle.std.proofs.Common.{arith, subst, sym, ◌∙◌}
use Rattle.std.proofs.lemmas.Result.{err_from_is_err_and}
use Rattle.pb_converge.proofs.DriveLemmas.{stopped-later, gone-append}
use Rattle.pb_converge.proofs.SweepLemmas.{drained}
use Rattle.pb_converge.specs.Drives.{is_onward, HasStopped}
use Rattle.pb_converge.proofs.draining.drain.Goals as goal

pub returns-in_err-more-clause-err : goal.returns-in_err-more-clause-err
returns-in_err-more-clause-err c =
    let p = err_from_is_err_and c.from_residual.result c.from_residual.ensures.1 in
    let before = c.sweeps.invariant in
    let s = stopped-later c.args.most c.sweeps.done c.in_err-more.field-0.0 c.args.net.now c.sweeps.net
    c.sweep.new.net before.gone before.within c.in_err-more.ensures.err in
    rw p.1 (subst (λ f. HasStopped c.args.most f c.args.net.now c.sweep.new.net) (sym p.2) s)

pub returns-then-more-eq0-clause-ok : goal.returns-then-more-eq0-clause-ok
returns-then-more-eq0-clause-ok c =
    let before = c.sweeps.invariant in
    drained c.args.plan.now c.sweeps.done c.in_ok-more.more c.args.net.now c.sweeps.net c.sweep.new.net
    c.requires.sound (c.in_ok-more.ensures.plan ∙ before.plan) before.gone c.in_ok-more.ensures.ok
    c.if-more-eq0.true

pub sweeps-preserved : goal.sweeps-preserved
sweeps-preserved c =
    let before = c.sweeps.invariant in
    record {
      gone = gone-append is_onward c.sweeps.done c.in_ok-more.more c.args.net.now c.sweeps.net c.sweep.new.net
          before.gone c.in_ok-more.ensures.ok.gone;
      within = omega (arith, before.within, c.in_ok-more.ensures.within);
      plan = c.in_ok-more.ensures.plan ∙ before.plan;
    }
