use Rattle.std.proofs.Common.{refl, subst, sym}
use Rattle.std.proofs.lemmas.Result.{err_from_is_err_and}
use Rattle.pb_lan.specs.declared.event.Event.TheVariants.{Take, Put}
use Rattle.pb_converge.proofs.DriveLemmas.{stopped-later}
use Rattle.pb_converge.proofs.SweepLemmas.{tried-join, tried-quiet_lane}
use Rattle.pb_converge.specs.Drives.{HasStopped}
use Rattle.pb_converge.specs.Sweeps.{IsThis, IsAtLane}
use Rattle.pb_converge.proofs.draining.at_lane.Goals as goal

pub returns-then-is_lane_quiet-clause-ok : goal.returns-then-is_lane_quiet-clause-ok
returns-then-is_lane_quiet-clause-ok c =
    let told = c.if-is_lane_quiet.ensures in
    tried-quiet_lane c.args.lane c.args.net.now (told.take refl) (told.put refl)

pub returns-in_err-more-clause-err : goal.returns-in_err-more-clause-err
returns-in_err-more-clause-err c =
    let p = err_from_is_err_and c.from_residual-in_err-more.result c.from_residual-in_err-more.ensures.1 in
    let s = stopped-later c.args.left c.in_ok-done.done c.in_err-more.field-0.0 c.args.net.now c.attempt.new.net
    c.attempt-2.new.net c.in_ok-done.ensures.ok.gone c.in_ok-done.ensures.within c.in_err-more.ensures.err in
    rw p.1 (subst (λ f. HasStopped c.args.left f c.args.net.now c.attempt-2.new.net) (sym p.2) s)

pub returns-clause-ok : goal.returns-clause-ok
returns-clause-ok c =
    tried-join (IsThis (Take c.args.lane)) (IsThis (Put c.args.lane)) (IsAtLane c.args.lane) c.in_ok-done.done
    c.in_ok-more.more c.args.net.now c.attempt.new.net c.attempt-2.new.net
    (λ event is. is) c.in_ok-done.ensures.ok c.in_ok-more.ensures.ok
