use Rattle.pb_spanning_tree.proofs.SpanLaws.{spans}
use Rattle.pb_spanning_tree.proofs.laws.spans.Goals as goal

pub returns : goal.returns
returns c = spans
