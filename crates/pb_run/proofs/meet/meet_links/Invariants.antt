use Rattle.std.proofs.Common.{◌≡◌, ◌<◌, ◌+◌, ◌*◌, ℕ, Some, map, slice_get}
use Rattle.pb_lan.specs.Records.{MeetsOver}
use Rattle.pb_lan.specs.declared.plan.LinkPlan.{LinkPlan}
use Rattle.pb_run.specs.Meetings.{of_lanes}
use Rattle.pb_run.specs.Workers.{AreSameBridges, AreSameLanes}
use Rattle.pb_run.proofs.meet.meet_links.Given as goal

abbrev pub invariant-loop-place : goal.invariant-loop-place
invariant-loop-place g l = record {
  bridges : AreSameBridges l.initial.bridges.items l.bridges.items;
  lanes : AreSameLanes l.initial.lanes.items l.lanes.items;
  meet : (k : ℕ) (link : LinkPlan) → k < l.place → slice_get l.plan.links k ≡ Some link
      → MeetsOver (of_lanes (map (λ b. b.bridge.steps) l.initial.bridges.items)
      (map (λ w. w.lane.steps) l.initial.lanes.items)) (2 * k + 1) link.a link.b
      × MeetsOver (of_lanes (map (λ b. b.bridge.steps) l.initial.bridges.items)
      (map (λ w. w.lane.steps) l.initial.lanes.items)) (2 * k + 2) link.b link.a;
}
