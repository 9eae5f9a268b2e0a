use Rattle.pb_rstp.proofs.PlanLaws.{calls_keep_bridges}
use Rattle.pb_rstp.proofs.laws.calls_keep_bridges.Goals as goal

pub returns : goal.returns
returns c = calls_keep_bridges
