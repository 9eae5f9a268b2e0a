use Rattle.pb_datagram.proofs.HeaderLemmas.{written_read}
use Rattle.pb_datagram.proofs.laws.what_is_written_is_read.Goals as goal

pub returns : goal.returns
returns c = written_read
