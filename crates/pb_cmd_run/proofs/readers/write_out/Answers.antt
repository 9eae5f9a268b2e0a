use Rattle.pb_cmd_run.proofs.UnsentLemmas.{have_none, have_on}
use Rattle.pb_cmd_run.proofs.readers.write_out.Goals as goal

pub returns-in-Over : goal.returns-in-Over
returns-in-Over g c = have_on c.loop.invariant c.try_files-ported.ensures

pub loop-preserved : goal.loop-preserved
loop-preserved g c = have_on c.loop.invariant c.try_files-ported.ensures

pub returns-then-eq : goal.returns-then-eq
returns-then-eq g c = have_on c.loop.invariant c.try_files-ported.ensures

pub loop-init : goal.loop-init
loop-init g c = have_none _
