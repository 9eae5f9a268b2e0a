use Rattle.pb_cmd_run.proofs.UnsentLemmas.{have_none, have_on}
use Rattle.pb_cmd_run.proofs.linger.write_on.Goals as goal

pub returns-in-Over : goal.returns-in-Over
returns-in-Over g c = have_on c.loop.invariant c.try_all-came.ensures

pub loop-preserved : goal.loop-preserved
loop-preserved g c = have_on c.loop.invariant c.try_all-came.ensures

pub returns-in_default : goal.returns-in_default
returns-in_default g c = have_none _

pub loop-init : goal.loop-init
loop-init g c = have_none _
