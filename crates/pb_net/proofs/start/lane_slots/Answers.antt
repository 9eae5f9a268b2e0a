use Rattle.std.proofs.Common.{◌≡◌, ◌<◌, Some, slice_get}
use Rattle.pb_frame.proofs.Things.{here_is}
use Rattle.pb_net.proofs.StartLemmas.{lane_slots-more, ends_numbered}
use Rattle.pb_net.proofs.start.lane_slots.Goals.{After-link-item}
use Rattle.pb_net.proofs.start.lane_slots.Goals as goal

-- the link is the plan's, and its ends have numbers
at : (c : After-link-item) → slice_get c.args.plan.now.links c.loop-link.link-index ≡ Some c.link-item.result
at c = rw c.as_slice-links.ensures at (here_is c.as_slice-links.result.now c.loop-link.link-index c.link-item.result
    c.loop-link-test.true c.link-item.is)

numbers : (c : After-link-item) → (0 < c.link-item.result.a.bridge) × (0 < c.link-item.result.a.port)
    × (0 < c.link-item.result.b.bridge) × (0 < c.link-item.result.b.port)
numbers c = ends_numbered c.args.plan.now c.loop-link.link-index c.link-item.result c.requires (at c)

pub slot_of_end-from-requires : goal.slot_of_end-from-requires
slot_of_end-from-requires c = let n = numbers (goal.at.slot_of_end-from-requires c).After-link-item in
    record { bridge = n.0; port = n.1 }

pub slot_of_end-to-requires : goal.slot_of_end-to-requires
slot_of_end-to-requires c = let n = numbers (goal.at.slot_of_end-to-requires c).After-link-item in
    record { bridge = n.2; port = n.3 }

pub loop-link-preserved : goal.loop-link-preserved
loop-link-preserved c =
    rw (c.in_ok-push-2.ensures.items, c.in_ok-push.ensures.items)
    (lane_slots-more c.args.plan.now c.loop-link.link-index c.link-item.result c.loop-link.slots.items _ _ c.requires
    (at (goal.at.loop-link-preserved c).After-link-item) c.loop-link.invariant (cc) (cc))
