use Rattle.std.proofs.Common.{◌≡◌, drop}
use Rattle.std.specs.List.{list_any}
use Rattle.pb_relay.specs.Kinds.{is_to_bridge}
use Rattle.pb_relay.specs.PortKinds.{locals}
use Rattle.pb_relay.proofs.ports.any_bridge.Given as goal

abbrev pub invariant-loop-place : goal.invariant-loop-place
invariant-loop-place l = list_any is_to_bridge (drop l.place (locals l.services l.starts)) ≡ list_any is_to_bridge
    (locals l.services l.starts)
