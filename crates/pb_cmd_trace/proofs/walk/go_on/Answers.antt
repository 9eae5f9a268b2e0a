use Rattle.pb_cmd_step.proofs.StepLemmas.{place_there}
use Rattle.pb_converge.proofs.LimitLemmas.{caused-full, caused-told}
use Rattle.pb_converge.specs.declared.fault.DriveFault.TheVariants.{Steps}
use Rattle.std.proofs.Common.{◌∙◌}
use Rattle.pb_cmd_trace.proofs.walk.go_on.Goals as goal

pub newest-requires-clause-has : goal.newest-requires-clause-has
newest-requires-clause-has c =
    let h = rw c.in-Ok-Done.field-0-is at c.in-Ok-Done.ensures in
    place_there c.args.plan.now c.requires.sound c.args.net.now c.step.new.self c.event_of.result c.in-Ok-Done.place
    c.requires.plan h

pub returns-in-Err-StepLimit-clause-err : goal.returns-in-Err-StepLimit-clause-err
returns-in-Err-StepLimit-clause-err c =
    let old = c.args.net.now in
    let new = c.step.new.self in
    let h = rw c.in-Err-StepLimit.field-0-is at c.in-Err-StepLimit.ensures in
    caused-told 0 0 0 1000000 Steps c.fault_in.result old new c.fault_in.ensures.fault c.fault_in.ensures.enough
    (caused-full 0 0 0 1000000 c.event_of.result old new h)

pub newest-requires-clause-kept : goal.newest-requires-clause-kept
newest-requires-clause-kept c =
    let h = rw c.in-Ok-Done.field-0-is at c.in-Ok-Done.ensures in
    h.4 ∙ c.requires.kept
