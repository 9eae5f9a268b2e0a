use Rattle.pb_net.proofs.StartLemmas.{fresh_bridges-more}
use Rattle.pb_net.proofs.start.fresh_bridges.Goals as goal

pub loop-place-preserved : goal.loop-place-preserved
loop-place-preserved c =
    rw c.in_ok-push.ensures.items (fresh_bridges-more c.args.plan.now c.args.is_kept c.loop-place.place
    c.loop-place.bridges.items
    c.in_ok-fresh_bridge.field-0 c.loop-place.invariant c.in_ok-fresh_bridge.ensures)
