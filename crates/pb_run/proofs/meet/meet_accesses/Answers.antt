use Rattle.std.proofs.Common.{◌+◌}
use Rattle.pb_lan.specs.Records.{MeetsCustomer}
use Rattle.pb_run.specs.Meetings.{of_customers}
use Rattle.pb_run.proofs.Lists.{both_kept_still}
use Rattle.pb_run.proofs.Meeting.{one_more_met}
use Rattle.pb_run.proofs.meet.meet_accesses.Goals as goal

pub loop-place-preserved : goal.loop-place-preserved
loop-place-preserved g c =
    let i = c.loop-place.invariant in
    let met = c.meet_access.ensures in
    record {
      bridges = both_kept_still met.bridges i.bridges;
      accesses = both_kept_still met.accesses i.accesses;
      meet = one_more_met (λ bs ds k customer. MeetsCustomer (of_customers bs ds) (k + 1) customer)
          c.args.plan.now.customers c.loop-place.place _ _ _ _ i.bridges.1 i.accesses.1 i.meet met.meets;
    }
