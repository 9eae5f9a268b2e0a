use Rattle.std.proofs.Common.{◌≡◌, [], map, take}
use Rattle.pb_relay.proofs.ServiceLemmas.{pair_of}
use Rattle.pb_relay.proofs.start.services_of.Given as goal

abbrev pub invariant-loop-service : goal.invariant-loop-service
invariant-loop-service l = (l.services.services ≡ map pair_of (take l.service-index l.plan.services))
    × (l.services.ports ≡ [])
