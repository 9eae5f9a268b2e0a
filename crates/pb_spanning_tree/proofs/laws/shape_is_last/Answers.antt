use Rattle.pb_spanning_tree.proofs.RecordLaws.{shape_is_last}
use Rattle.pb_spanning_tree.proofs.laws.shape_is_last.Goals as goal

pub returns : goal.returns
returns c = shape_is_last
