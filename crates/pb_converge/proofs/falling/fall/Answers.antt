use Rattle.std.proofs.Common.{◌∷◌, [], false}
use Rattle.pb_lan.specs.declared.event.Event.TheVariants.{Admin}
use Rattle.pb_converge.proofs.DriveLemmas.{at_limit}
use Rattle.pb_converge.proofs.FallLemmas.{broken-now}
use Rattle.pb_converge.specs.declared.fault.DriveFault.TheVariants.{Steps}
use Rattle.pb_converge.proofs.falling.fall.Goals as goal

pub returns-in-Err-StepLimit-clause-err : goal.returns-in-Err-StepLimit-clause-err
returns-in-Err-StepLimit-clause-err c =
    let old = c.args.net.now in
    let new = c.step.new.self in
    let event = Admin c.args.end.now.bridge c.args.end.now.port false in
    let h = rw c.in-Err-StepLimit.field-0-is at c.in-Err-StepLimit.ensures in
    broken-now (event ∷ []) Steps old new h.3 (at_limit old new event h)
