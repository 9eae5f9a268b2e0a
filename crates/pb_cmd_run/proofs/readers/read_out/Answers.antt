use Rattle.pb_cmd_run.proofs.UnsentLemmas.{have_none}
use Rattle.pb_cmd_run.proofs.readers.read_out.Goals as goal

pub returns-then-ne-clause-went_on : goal.returns-then-ne-clause-went_on
returns-then-ne-clause-went_on g c = have_none _
