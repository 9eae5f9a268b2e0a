use Rattle.pb_service.proofs.Acceptance.{accepted_address}
use Rattle.pb_service.proofs.bridge.read_bridge.Goals as goal

pub bridge_of-requires : goal.bridge_of-requires
bridge_of-requires c = accepted_address _ c.in_ok-check_row.ensures.ok
