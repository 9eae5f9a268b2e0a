use Rattle.std.proofs.Common.{◌+◌, ◌*◌}
use Rattle.pb_lan.specs.Records.{MeetsOver}
use Rattle.pb_run.specs.Meetings.{of_lanes}
use Rattle.pb_run.proofs.Lists.{both_kept_still}
use Rattle.pb_run.proofs.Meeting.{one_more_met}
use Rattle.pb_run.proofs.meet.meet_links.Goals as goal

pub loop-place-preserved : goal.loop-place-preserved
loop-place-preserved g c =
    let i = c.loop-place.invariant in
    let met = c.meet_link.ensures in
    record {
      bridges = both_kept_still met.bridges i.bridges;
      lanes = both_kept_still met.lanes i.lanes;
      meet = one_more_met (λ bs ls k link. MeetsOver (of_lanes bs ls) (2 * k + 1) link.a link.b
          × MeetsOver (of_lanes bs ls) (2 * k + 2) link.b link.a)
          c.args.plan.now.links c.loop-place.place _ _ _ _ i.bridges.1 i.lanes.1 i.meet met.meets;
    }
