use Rattle.pb_relay.proofs.ServiceLemmas.{new_service}
use Rattle.pb_relay.proofs.start.services_of.Goals as goal

pub add-requires-clause-name : goal.add-requires-clause-name
add-requires-clause-name c =
    (new_service c.args.plan.now c.loop-service.services _ c.loop-service.service-index c.service-item.result c.requires
    c.as_slice-service-items.ensures c.loop-service-test.true c.service-item.is c.loop-service.invariant.0).0

pub add-requires-clause-free : goal.add-requires-clause-free
add-requires-clause-free c =
    (new_service c.args.plan.now c.loop-service.services _ c.loop-service.service-index c.service-item.result c.requires
    c.as_slice-service-items.ensures c.loop-service-test.true c.service-item.is c.loop-service.invariant.0).1
