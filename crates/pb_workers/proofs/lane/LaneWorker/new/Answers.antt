use Rattle.std.proofs.Common.{sym, subst}
use Rattle.pb_workers.specs.Recording.{AreRecorded}
use Rattle.pb_workers.proofs.lane.LaneWorker.new.Goals as goal

pub invariant_of-result-clause-recorded : goal.invariant_of-result-clause-recorded
invariant_of-result-clause-recorded g c =
    subst (AreRecorded c.args.taps.items) (sym c.requires.steps) c.requires.taps
