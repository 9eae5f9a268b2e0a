use Rattle.pb_port.proofs.WholeLemmas.{one_reading}
use Rattle.pb_port.proofs.laws.streams_have_one_reading.Goals as goal

pub returns : goal.returns
returns c = one_reading
