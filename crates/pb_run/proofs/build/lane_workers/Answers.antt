use Rattle.std.proofs.Common.{◌+◌, ◌∙◌, arith}
use Rattle.pb_frame.proofs.Things.{here_is}
use Rattle.pb_run.specs.Wires.{HasOuter}
use Rattle.pb_run.proofs.EndsThere.{link_ports, first_there, others_there, after_link, apart_after_link}
use Rattle.pb_run.proofs.Gifts.{is_lane_gift, lanes_pushed}
use Rattle.pb_run.proofs.build.lane_workers.Goals as goal

pub outer-to_a-requires : goal.outer-to_a-requires
outer-to_a-requires g c =
    let links = c.as_slice-links.result.now in
    let at = rw c.as_slice-links.ensures at
    (here_is links c.loop-link.link-index c.link-item.result c.loop-link-test.true c.link-item.is) in
    first_there _ _ _ (link_ports c.args.plan.now.links c.args.plan.now.customers c.loop-link.link-index
    c.link-item.result at) (HasOuter c.loop-link.ends.outlets.items c.loop-link.ends.inlets.items)
    c.loop-link.invariant.there

pub outer-to_b-requires : goal.outer-to_b-requires
outer-to_b-requires g c =
    let links = c.as_slice-links.result.now in
    let at = rw c.as_slice-links.ensures at
    (here_is links c.loop-link.link-index c.link-item.result c.loop-link-test.true c.link-item.is) in
    (others_there _ _ _ (link_ports c.args.plan.now.links c.args.plan.now.customers c.loop-link.link-index
    c.link-item.result at) (HasOuter c.loop-link.ends.outlets.items c.loop-link.ends.inlets.items)
    (HasOuter c.outer-to_a.new.self.outlets.items c.outer-to_a.new.self.inlets.items) c.loop-link.invariant.apart
    c.outer-to_a.ensures.outer c.loop-link.invariant.there).0

pub loop-link-preserved : goal.loop-link-preserved
loop-link-preserved g c =
    let links = c.as_slice-links.result.now in
    let link = c.link-item.result in
    let i = c.loop-link.invariant in
    let at = rw c.as_slice-links.ensures at
    (here_is links c.loop-link.link-index link c.loop-link-test.true c.link-item.is) in
    let one = c.outer-to_a.ensures in
    let two = c.outer-to_b.ensures in
    record {
      gifts = lanes_pushed _ c.args.plan.now c.loop-link.link-index (c.len.result + 1) link c.loop-link.workers.items
          c.push.new.self.items c.push-in-loop-link.new.self.items
          c.in_ok-lane_worker.field-0 c.in_ok-lane_worker-2.field-0 at
          (omega (arith, c.len.ensures, c.loop-link.workers.ok)) c.in_ok-push.ensures.items
          c.in_ok-push-2.ensures.items i.gifts
          (c.in_ok-lane_worker.ensures ∙ is_lane_gift (c.len.result + 1) c.outer-to_a.result.1.number
          c.outer-to_b.result.0.number link.a link.b link.lost_ab one.inlet.0 two.outlet.0)
          (c.in_ok-lane_worker-2.ensures ∙ is_lane_gift (c.len.result + 1 + 1) c.outer-to_b.result.1.number
          c.outer-to_a.result.0.number link.b link.a link.lost_ba two.inlet.0 one.outlet.0);
      there = after_link c.args.plan.now.links c.args.plan.now.customers c.loop-link.link-index link at
          (HasOuter c.outer-to_a.new.self.outlets.items c.outer-to_a.new.self.inlets.items)
          (HasOuter c.outer-to_b.new.self.outlets.items c.outer-to_b.new.self.inlets.items) i.apart two.outer
          (others_there _ _ _ (link_ports c.args.plan.now.links c.args.plan.now.customers c.loop-link.link-index link
          at)
          (HasOuter c.loop-link.ends.outlets.items c.loop-link.ends.inlets.items)
          (HasOuter c.outer-to_a.new.self.outlets.items c.outer-to_a.new.self.inlets.items) i.apart one.outer i.there);
      apart = apart_after_link c.args.plan.now.links c.args.plan.now.customers c.loop-link.link-index link at i.apart;
    }
