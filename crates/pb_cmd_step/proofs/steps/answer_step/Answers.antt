use Rattle.std.proofs.Common.{string_bytes}
use Rattle.pb_cmd_step.proofs.StepLemmas.{place_there, answered_done, answered_idle, answered_absent, answered_bad}
use Rattle.pb_cmd_step.proofs.steps.answer_step.Goals as goal

pub returns-in_default-clause-ok : goal.returns-in_default-clause-ok
returns-in_default-clause-ok c =
    let none = rw c.in_default.is at c.in_ok-event.ensures.none in
    answered_bad c.args.limit c.args.number c.args.line.now c.args.names.now.plan.now c.args.net.now
    (string_bytes c.args.out.now) (string_bytes c.put_bad.new.out)
    c.requires.plan none c.in_ok-put_bad.ensures

pub newest-requires-clause-has : goal.newest-requires-clause-has
newest-requires-clause-has c =
    let h = rw c.in-Ok-Done.field-0-is at c.in-Ok-Done.ensures in
    place_there c.args.names.now.plan.now c.requires.sound c.args.net.now c.step.new.self c.in-Some.event
    c.in-Ok-Done.place c.requires.plan h

pub returns-in_ok-put_idle-in-Ok-Idle-clause-ok : goal.returns-in_ok-put_idle-in-Ok-Idle-clause-ok
returns-in_ok-put_idle-in-Ok-Idle-clause-ok c =
    let asks = rw c.in-Some.is at c.in_ok-event.ensures.some in
    let h = rw c.in-Ok-Idle.field-0-is at c.in-Ok-Idle.ensures in
    answered_idle c.args.limit c.args.number c.args.line.now c.args.names.now.plan.now c.args.net.now c.step.new.self
    c.in-Some.event (string_bytes c.args.out.now) (string_bytes c.put_idle.new.out)
    c.requires.plan asks h c.in_ok-put_idle-in-Ok-Idle.ensures

pub returns-in_ok-put_done-in-Ok-Done-clause-ok : goal.returns-in_ok-put_done-in-Ok-Done-clause-ok
returns-in_ok-put_done-in-Ok-Done-clause-ok c =
    let asks = rw c.in-Some.is at c.in_ok-event.ensures.some in
    let h = rw c.in-Ok-Done.field-0-is at c.in-Ok-Done.ensures in
    answered_done c.args.limit c.args.number c.args.line.now c.args.names.now.plan.now c.args.net.now c.step.new.self
    c.in-Some.event c.in-Ok-Done.place c.newest.result.now
    (string_bytes c.args.out.now) (string_bytes c.put_done.new.out) c.requires.plan asks h c.newest.ensures.lawful
    c.newest.ensures.newest c.in_ok-put_done-in-Ok-Done.ensures

pub returns-in_ok-put_no_such-in-Err-NoSuch-clause-ok : goal.returns-in_ok-put_no_such-in-Err-NoSuch-clause-ok
returns-in_ok-put_no_such-in-Err-NoSuch-clause-ok c =
    let asks = rw c.in-Some.is at c.in_ok-event.ensures.some in
    let h = rw c.in-Err-NoSuch.field-0-is at c.in-Err-NoSuch.ensures in
    answered_absent c.args.limit c.args.number c.args.line.now c.args.names.now.plan.now c.args.net.now
    c.step.new.self c.in-Some.event (string_bytes c.args.out.now) (string_bytes c.put_no_such.new.out)
    c.requires.plan asks h c.in_ok-put_no_such-in-Err-NoSuch.ensures
