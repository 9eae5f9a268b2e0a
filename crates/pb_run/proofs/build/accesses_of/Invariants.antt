use Rattle.std.proofs.Common.{◌≡◌, [], All, drop, map}
use Rattle.std.specs.List.{AllByRecursion, IsDistinct}
use Rattle.pb_lan.specs.Plans.{is_same_port, ports_in}
use Rattle.pb_run.specs.Gifts.{AreAccesses, given_access}
use Rattle.pb_run.specs.Wires.{HasOuter}
use Rattle.pb_workers.specs.declared.access.Last.TheVariants.{More}
use Rattle.pb_run.proofs.build.accesses_of.Given as goal

abbrev pub invariant-loop-customer : goal.invariant-loop-customer
invariant-loop-customer g l = record {
  gifts : AreAccesses l.plan l.customer-index (map given_access l.accesses.items);
  fresh : All (λ d. (d.place.steps ≡ []) × (d.book.last ≡ More)) l.accesses.items;
  there : AllByRecursion (HasOuter l.ends.outlets.items l.ends.inlets.items)
      (ports_in [] (drop l.customer-index l.plan.customers));
  apart : IsDistinct is_same_port (ports_in [] (drop l.customer-index l.plan.customers));
}
