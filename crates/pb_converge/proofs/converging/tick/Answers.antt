use Rattle.pb_lan.specs.declared.event.Event.TheVariants.{Tick}
use Rattle.pb_converge.proofs.DriveLemmas.{at_limit}
use Rattle.pb_converge.proofs.converging.tick.Goals as goal

pub returns-in-Err-StepLimit-clause-refusal : goal.returns-in-Err-StepLimit-clause-refusal
returns-in-Err-StepLimit-clause-refusal c =
    at_limit c.args.net.now c.step.new.self (Tick c.args.bridge)
    (rw c.in-Err-StepLimit.field-0-is at c.in-Err-StepLimit.ensures)
