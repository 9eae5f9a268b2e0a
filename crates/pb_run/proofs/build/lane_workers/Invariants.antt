use Rattle.std.proofs.Common.{drop, map}
use Rattle.std.specs.List.{AllByRecursion, IsDistinct}
use Rattle.pb_lan.specs.Plans.{is_same_port, ports_in}
use Rattle.pb_run.specs.Gifts.{AreLanes, given_lane}
use Rattle.pb_run.specs.Wires.{HasOuter}
use Rattle.pb_run.proofs.build.lane_workers.Given as goal

abbrev pub invariant-loop-link : goal.invariant-loop-link
invariant-loop-link g l = record {
  gifts : AreLanes l.plan l.link-index (map given_lane l.workers.items);
  there : AllByRecursion (HasOuter l.ends.outlets.items l.ends.inlets.items)
      (ports_in (drop l.link-index l.plan.links) l.plan.customers);
  apart : IsDistinct is_same_port (ports_in (drop l.link-index l.plan.links) l.plan.customers);
}
