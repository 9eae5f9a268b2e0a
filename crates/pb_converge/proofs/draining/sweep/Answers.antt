use Rattle.std.proofs.Common.{◌≤◌, ◌+◌, ◌-◌, arith, subst, sym, ◌≡◌, ◌⊎◌}
use Rattle.std.proofs.lemmas.Result.{err_from_is_err_and}
use Rattle.pb_converge.proofs.DriveLemmas.{stopped-later}
use Rattle.pb_converge.proofs.SweepLemmas.{tried-join}
use Rattle.pb_converge.specs.Drives.{HasStopped}
use Rattle.pb_converge.specs.Sweeps.{HaveTried, IsAtCustomers, IsAtBridges, IsAtLanes, IsAnywhere}
use Rattle.pb_converge.proofs.draining.sweep.Goals as goal

pub returns-in_err-bridges-clause-err : goal.returns-in_err-bridges-clause-err
returns-in_err-bridges-clause-err c =
    let p = err_from_is_err_and c.from_residual-in_err-bridges.result c.from_residual-in_err-bridges.ensures.1 in
    let s = stopped-later c.args.left c.in_ok-ports.ports c.in_err-bridges.field-0.0 c.args.net.now
    c.sweep_customers.new.net c.sweep_bridges.new.net c.in_ok-ports.ensures.ok.gone c.in_ok-ports.ensures.within
    c.in_err-bridges.ensures.err in
    rw p.1 (subst (λ f. HasStopped c.args.left f c.args.net.now c.sweep_bridges.new.net) (sym p.2) s)

pub returns-in_err-lanes-clause-err : goal.returns-in_err-lanes-clause-err
returns-in_err-lanes-clause-err c =
    let p = err_from_is_err_and c.from_residual-in_err-lanes.result c.from_residual-in_err-lanes.ensures.1 in
    let a = c.in_ok-ports.ports in
    let b = c.in_ok-bridges.bridges in
    let mid = c.sweep_bridges.new.net in
    let new = c.sweep_lanes.new.net in
    let within : b ≤ c.args.left - a = c.in_ok-bridges.ensures.within in
    let s = stopped-later (c.args.left - a) b c.in_err-lanes.field-0.0 c.sweep_customers.new.net mid new
    c.in_ok-bridges.ensures.ok.gone within c.in_err-lanes.ensures.err in
    let t = stopped-later c.args.left a c.in_err-lanes.field-0.0 c.args.net.now c.sweep_customers.new.net new
    c.in_ok-ports.ensures.ok.gone c.in_ok-ports.ensures.within s in
    rw p.1 (subst (λ f. HasStopped c.args.left f c.args.net.now new) (sym p.2) t)

pub returns-clause-ok : goal.returns-clause-ok
returns-clause-ok c =
    let plan = c.args.plan.now in
    let a = c.in_ok-ports.ports in
    let b = c.in_ok-bridges.bridges in
    let d = c.in_ok-lanes.lanes in
    let back = tried-join (IsAtBridges plan) (IsAtLanes plan) (λ event. IsAtBridges plan event ⊎ IsAtLanes plan event)
    b d c.sweep_customers.new.net c.sweep_bridges.new.net c.sweep_lanes.new.net
    (λ event is. is) c.in_ok-bridges.ensures.ok c.in_ok-lanes.ensures.ok in
    let all = tried-join (IsAtCustomers plan) (λ event. IsAtBridges plan event ⊎ IsAtLanes plan event)
    (IsAnywhere plan) a (b + d) c.args.net.now c.sweep_customers.new.net c.sweep_lanes.new.net
    (λ event is. is) c.in_ok-ports.ensures.ok back in
    let e : a + (b + d) ≡ (a + b) + d = omega arith in
    subst (λ n. HaveTried (IsAnywhere plan) n c.args.net.now c.sweep_lanes.new.net) e all
