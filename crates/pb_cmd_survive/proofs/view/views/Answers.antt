use Rattle.std.proofs.Common.{◌<◌, ◌+◌, take, subst, sym, length, arith}
use Rattle.pb_cmd_survive.specs.Failures.{is_out}
use Rattle.pb_cmd_survive.specs.Views.{IsView, AreViews}
use Rattle.pb_cmd_survive.proofs.ListLemmas.{zip_one_more}
use Rattle.pb_cmd_survive.proofs.view.views.Goals as goal

pub loop-service-preserved : goal.loop-service-preserved
loop-service-preserved c =
    let services = c.args.services.now in
    let i = c.loop-service.service-index in
    let out = is_out c.args.plan.now c.args.names.now c.args.failure in
    let within : i < length services = omega (arith, c.loop-service-test.true) in
    subst (AreViews c.args.plan.now c.args.shape.now out (take (i + 1) services))
    (sym c.in_ok-push.ensures.items)
    (zip_one_more (IsView c.args.plan.now c.args.shape.now out) services i 0 c.loop-service.views.items
    c.in_ok-view_of.field-0
    within c.loop-service.invariant c.in_ok-view_of.ensures)
