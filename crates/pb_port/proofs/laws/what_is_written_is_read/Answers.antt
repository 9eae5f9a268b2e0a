use Rattle.pb_port.proofs.WrittenLemmas.{written_read}
use Rattle.pb_port.proofs.laws.what_is_written_is_read.Goals as goal

pub returns : goal.returns
returns c = written_read
