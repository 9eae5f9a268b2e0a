use Rattle.pb_spanning_tree.proofs.PlannedLaws.{converged_tree}
use Rattle.pb_spanning_tree.proofs.laws.converged_tree.Goals as goal

pub returns : goal.returns
returns c = converged_tree
