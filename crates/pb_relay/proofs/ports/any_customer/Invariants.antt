use Rattle.std.proofs.Common.{◌≡◌, drop}
use Rattle.std.specs.List.{list_any}
use Rattle.pb_relay.specs.Kinds.{is_to_customer}
use Rattle.pb_relay.specs.PortKinds.{locals}
use Rattle.pb_relay.proofs.ports.any_customer.Given as goal

abbrev pub invariant-loop-place : goal.invariant-loop-place
invariant-loop-place l = list_any is_to_customer (drop l.place (locals l.services l.starts)) ≡ list_any is_to_customer
    (locals l.services l.starts)
