use Rattle.pb_net.specs.Starts.{AreCustomerSlots}
use Rattle.pb_net.proofs.start.customer_slots.Given as goal

abbrev pub invariant-loop-customer : goal.invariant-loop-customer
invariant-loop-customer l = AreCustomerSlots l.plan l.customer-index l.slots.items
