use Rattle.pb_port.proofs.ReadBackLemmas.{sent_read}
use Rattle.pb_port.proofs.laws.what_was_sent_is_read.Goals as goal

pub returns : goal.returns
returns c = sent_read
