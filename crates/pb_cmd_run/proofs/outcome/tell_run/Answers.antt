use Rattle.pb_run.proofs.Values.{on_value}
use Rattle.pb_cmd_run.proofs.UnsentLemmas.{still_unsent}
use Rattle.pb_cmd_run.proofs.outcome.tell_run.Goals as goal

pub tell-told-requires-clause-unsent : goal.tell-told-requires-clause-unsent
tell-told-requires-clause-unsent g c =
    let same = c.in_ok-closed.ensures in
    rw same.counts (still_unsent _ _ _ _ _ _ c.requires.unsent same.files)

pub returns-clause-ok : goal.returns-clause-ok
returns-clause-ok g c =
    let same = c.in_ok-closed.ensures in
    rw (← same.counts, ← same.last, ← same.ended, ← same.settled)
    (on_value c.tell-told.result c.tell-told.ensures.ok (λ status report. (_, report, same.files)))
