use Rattle.pb_net.specs.Starts.{AreFreshCustomers}
use Rattle.pb_net.proofs.start.fresh_customers.Given as goal

abbrev pub invariant-loop-place : goal.invariant-loop-place
invariant-loop-place l = AreFreshCustomers l.is_kept l.place l.customers.items
