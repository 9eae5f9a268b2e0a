use Rattle.pb_converge.proofs.DriveLemmas.{stopped-over}
use Rattle.pb_converge.proofs.SweepLemmas.{tried-done}
use Rattle.pb_converge.proofs.draining.attempt.Goals as goal

pub returns-in-Ok-Done-clause-err : goal.returns-in-Ok-Done-clause-err
returns-in-Ok-Done-clause-err c =
    let h = rw c.in-Ok-Done.field-0-is at c.in-Ok-Done.ensures in
    stopped-over c.args.left c.args.net.now c.step.new.self c.args.event c.in-Ok-Done.field-0-0 c.if-left-eq0.true
    c.requires h

pub returns-in-Ok-Done-2-clause-ok : goal.returns-in-Ok-Done-2-clause-ok
returns-in-Ok-Done-2-clause-ok c =
    let h = rw c.in-Ok-Done.field-0-is at c.in-Ok-Done.ensures in
    tried-done c.args.event c.in-Ok-Done.field-0-0 c.args.net.now c.step.new.self c.requires h
