use Rattle.pb_net.proofs.StartLemmas.{fresh_lanes-more}
use Rattle.pb_net.proofs.start.fresh_lanes.Goals as goal
use Rattle.pb_frame.proofs.Things.{here_is}

pub loop-link-preserved : goal.loop-link-preserved
loop-link-preserved c =
    let k = c.loop-link.link-index in
    let at = rw c.as_slice-links.ensures at
    (here_is c.as_slice-links.result.now k c.link-item.result c.loop-link-test.true c.link-item.is) in
    rw (c.in_ok-push-2.ensures.items, c.in_ok-push.ensures.items)
    (fresh_lanes-more c.args.plan.now c.args.is_kept k c.link-item.result c.loop-link.lanes.items
    c.in_ok-fresh_lane.field-0
    c.in_ok-fresh_lane-2.field-0 at c.loop-link.invariant c.in_ok-fresh_lane.ensures c.in_ok-fresh_lane-2.ensures)
