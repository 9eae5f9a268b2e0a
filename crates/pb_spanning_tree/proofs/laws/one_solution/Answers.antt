use Rattle.pb_spanning_tree.proofs.SolutionLaws.{one_solution}
use Rattle.pb_spanning_tree.proofs.laws.one_solution.Goals as goal

pub returns : goal.returns
returns c = one_solution
