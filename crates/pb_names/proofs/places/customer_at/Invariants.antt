use Rattle.std.proofs.Common.{◌≡◌, drop}
use Rattle.pb_frame.specs.Lists.{first}
use Rattle.pb_lan.specs.Ports.{is_customer_at}
use Rattle.pb_names.proofs.places.customer_at.Given as goal

abbrev pub invariant-loop-customer : goal.invariant-loop-customer
invariant-loop-customer l =
    first (is_customer_at l.bridge l.port) (drop l.customer-index l.plan.customers) ≡ first
    (is_customer_at l.bridge l.port) l.plan.customers
