use Rattle.std.proofs.Common.{arith}
use Rattle.pb_warnings.proofs.FindingLemmas.{those-next}
use Rattle.pb_warnings.proofs.finding.due.Goals as goal

pub loop-warning-preserved : goal.loop-warning-preserved
loop-warning-preserved c =
    those-next _ c.args.all.now c.loop-warning.warning-index _ _ _ (omega arith) c.loop-warning.invariant
    c.in_ok-add_due.ensures
