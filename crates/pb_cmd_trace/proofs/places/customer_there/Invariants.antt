use Rattle.std.proofs.Common.{◌≡◌, ◌+◌, drop}
use Rattle.pb_lan.specs.Events.{customer_there, number_of}
use Rattle.pb_lan.specs.Ports.{is_customer_at}
use Rattle.pb_cmd_trace.proofs.places.customer_there.Given as goal

abbrev pub invariant-loop-place : goal.invariant-loop-place
invariant-loop-place l = number_of (is_customer_at l.bridge l.port) (l.place + 1) (drop l.place l.plan.customers)
    ≡ customer_there l.plan l.bridge l.port
