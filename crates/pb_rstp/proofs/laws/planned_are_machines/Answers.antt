use Rattle.pb_rstp.proofs.PlanLaws.{planned_are_machines}
use Rattle.pb_rstp.proofs.laws.planned_are_machines.Goals as goal

pub returns : goal.returns
returns c = planned_are_machines
