use Rattle.std.proofs.Common.{◌≡◌, ◌<◌, ◌+◌, ℕ, Some, map, slice_get}
use Rattle.pb_lan.specs.Records.{MeetsCustomer}
use Rattle.pb_lan.specs.declared.plan.CustomerPlan.{CustomerPlan}
use Rattle.pb_run.specs.Meetings.{of_customers}
use Rattle.pb_run.specs.Workers.{AreSameBridges, AreSameAccesses}
use Rattle.pb_run.proofs.meet.meet_accesses.Given as goal

abbrev pub invariant-loop-place : goal.invariant-loop-place
invariant-loop-place g l = record {
  bridges : AreSameBridges l.initial.bridges.items l.bridges.items;
  accesses : AreSameAccesses l.initial.accesses.items l.accesses.items;
  meet : (k : ℕ) (c : CustomerPlan) → k < l.place → slice_get l.plan.customers k ≡ Some c
      → MeetsCustomer (of_customers (map (λ b. b.bridge.steps) l.initial.bridges.items)
      (map (λ d. d.place.steps) l.initial.accesses.items)) (k + 1) c;
}
