use Rattle.pb_spanning_tree.proofs.PlannedLaws.{planned_are_planned}
use Rattle.pb_spanning_tree.proofs.laws.planned_are_planned.Goals as goal

pub returns : goal.returns
returns c = planned_are_planned
