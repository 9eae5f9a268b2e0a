use Rattle.pb_cmd_run.proofs.UnsentLemmas.{have_none, have_on}
use Rattle.pb_cmd_run.proofs.readers.try_files.Goals as goal

pub loop-captures-preserved : goal.loop-captures-preserved
loop-captures-preserved g c = have_on c.loop-captures.invariant c.try_file.ensures

pub loop-captures-init : goal.loop-captures-init
loop-captures-init g c = have_none _
