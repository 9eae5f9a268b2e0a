use Rattle.pb_workers.proofs.Recorded.{recorded_put}
use Rattle.pb_workers.proofs.recording.put_recorded.Goals as goal

pub returns-then-has_put-clause-recorded : goal.returns-then-has_put-clause-recorded
returns-then-has_put-clause-recorded g c =
    recorded_put _ _ _ _ _ _ _ c.args.taps.now.items c.commit_all.new.taps.items c.put.ensures.put c.in_ok-has_put.was
    c.if-has_put.true c.commit_all.ensures c.requires.ready c.requires.recorded
