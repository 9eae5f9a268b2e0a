use Rattle.pb_spanning_tree.proofs.RecordLaws.{last_forest}
use Rattle.pb_spanning_tree.proofs.laws.last_forest.Goals as goal

pub returns : goal.returns
returns c = last_forest
