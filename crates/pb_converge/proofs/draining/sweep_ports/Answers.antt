use Rattle.std.proofs.Common.{arith, refl, subst, sym, ◌∙◌}
use Rattle.std.proofs.lemmas.Result.{err_from_is_err_and}
use Rattle.pb_converge.proofs.DriveLemmas.{stopped-later}
use Rattle.pb_converge.proofs.SweepLemmas.{tried-more, tried-quiet_ports}
use Rattle.pb_converge.specs.Drives.{HasStopped}
use Rattle.pb_converge.specs.Sweeps.{IsAtPort}
use Rattle.pb_converge.proofs.draining.sweep_ports.Goals as goal

pub returns-then-is_bridge_quiet-clause-ok : goal.returns-then-is_bridge_quiet-clause-ok
returns-then-is_bridge_quiet-clause-ok c =
    let told = c.if-is_bridge_quiet.ensures in
    tried-quiet_ports c.args.bridge c.args.net.now (told.receives refl) (told.transmits refl)

pub returns-in_err-done-clause-err : goal.returns-in_err-done-clause-err
returns-in_err-done-clause-err c =
    let p = err_from_is_err_and c.from_residual.result c.from_residual.ensures.1 in
    let before = c.loop-place.invariant in
    let s = stopped-later c.args.left c.loop-place.done c.in_err-done.field-0.0 c.args.net.now c.loop-place.net
    c.at_port.new.net before.tried.gone before.within c.in_err-done.ensures.err in
    rw p.1 (subst (λ f. HasStopped c.args.left f c.args.net.now c.at_port.new.net) (sym p.2) s)

pub loop-place-preserved : goal.loop-place-preserved
loop-place-preserved c =
    let before = c.loop-place.invariant in
    record {
      tried = tried-more (IsAtPort c.args.bridge) c.loop-place.place c.loop-place.done c.in_ok-done.field-0
          c.args.net.now c.loop-place.net c.at_port.new.net before.tried c.in_ok-done.ensures.ok;
      within = omega (arith, before.within, c.in_ok-done.ensures.within);
      plan = c.in_ok-done.ensures.plan ∙ before.plan;
    }
