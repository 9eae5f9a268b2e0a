use Rattle.pb_spanning_tree.proofs.SolutionCosts.{least_cost}
use Rattle.pb_spanning_tree.proofs.laws.least_cost.Goals as goal

pub returns : goal.returns
returns c = least_cost
