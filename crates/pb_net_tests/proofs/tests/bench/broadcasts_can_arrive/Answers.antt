use Rattle.pb_forest.proofs.BroadcastRecord.{can_arrive}
use Rattle.pb_net_tests.proofs.tests.bench.broadcasts_can_arrive.Goals as goal

pub returns : goal.returns
returns c = can_arrive
