use Rattle.pb_port.proofs.RunLemmas.{run_reads}
use Rattle.pb_port.proofs.laws.polls_spell_the_reading.Goals as goal

pub returns : goal.returns
returns c = run_reads
