use Rattle.pb_bpdu.proofs.Relation.{read_again}
use Rattle.pb_bpdu.proofs.laws.what_is_written_is_read.Goals as goal

pub returns : goal.returns
returns c = read_again
