use Rattle.pb_workers.proofs.Recorded.{recorded_taken}
use Rattle.pb_workers.proofs.lane.LaneWorker.take.Goals as goal

pub invariant_of-self-3-clause-recorded : goal.invariant_of-self-3-clause-recorded
invariant_of-self-3-clause-recorded g c =
    recorded_taken c.take.result _ c.take.new.self _ _ _ c.args.self.now.taps.items c.take.ensures.taken
    c.args.self.now.recorded
