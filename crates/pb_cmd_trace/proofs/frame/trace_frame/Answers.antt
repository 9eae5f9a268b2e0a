use Rattle.std.proofs.Common.{◌∷◌, [], ◌∙◌}
use Rattle.std.proofs.lemmas.Result.{IfErr-weaker, IfOk-weaker}
use Rattle.pb_converge.proofs.DriveLemmas.{done-one}
use Rattle.pb_converge.proofs.FewLemmas.{few-poll}
use Rattle.pb_converge.proofs.LimitLemmas.{caused-full, caused-later, caused-told}
use Rattle.pb_converge.specs.declared.fault.DriveFault.TheVariants.{Steps}
use Rattle.pb_lan.specs.declared.event.Event.TheVariants.{Poll}
use Rattle.pb_cmd_trace.proofs.StoryLemmas.{frame_followed, port_there, port_grew}
use Rattle.pb_cmd_trace.proofs.frame.trace_frame.Goals as goal

pub follow-requires-clause-has : goal.follow-requires-clause-has
follow-requires-clause-has c =
    let h = rw c.in-Ok-Done.field-0-is at c.in-Ok-Done.ensures in
    port_there c.args.port c.args.frame c.in-Ok-Done.field-0-0 c.args.net.now c.step.new.self h

pub follow-requires-clause-grown : goal.follow-requires-clause-grown
follow-requires-clause-grown c =
    let h = rw c.in-Ok-Done.field-0-is at c.in-Ok-Done.ensures in
    port_grew c.args.port c.args.frame c.in-Ok-Done.field-0-0 c.args.net.now c.step.new.self h

pub returns-in-Ok-Done-clause-ok : goal.returns-in-Ok-Done-clause-ok
returns-in-Ok-Done-clause-ok c =
    let h = rw c.in-Ok-Done.field-0-is at c.in-Ok-Done.ensures in
    IfOk-weaker c.follow.result _ _
    (λ fate f. (
      f.0,
      f.1,
      frame_followed c.args.plan.now c.args.port c.args.frame fate c.in-Ok-Done.field-0-0
          c.args.net.now c.step.new.self c.follow.new.net f.0 h f.2,
    )) c.follow.ensures.ok

pub returns-in-Ok-Done-clause-err : goal.returns-in-Ok-Done-clause-err
returns-in-Ok-Done-clause-err c =
    let old = c.args.net.now in
    let new = c.step.new.self in
    let event = Poll c.args.port c.args.frame in
    let h = rw c.in-Ok-Done.field-0-is at c.in-Ok-Done.ensures in
    let done = done-one old new event c.in-Ok-Done.field-0-0 h in
    let few = few-poll c.args.port c.args.frame in
    IfErr-weaker c.follow.result _ _ (λ fault k. caused-later 0 0 0 1000000 fault (event ∷ []) old new few done k)
    c.follow.ensures.err

pub returns-in-Err-StepLimit-clause-err : goal.returns-in-Err-StepLimit-clause-err
returns-in-Err-StepLimit-clause-err c =
    let old = c.args.net.now in
    let new = c.step.new.self in
    let h = rw c.in-Err-StepLimit.field-0-is at c.in-Err-StepLimit.ensures in
    caused-told 0 1 0 1000000 Steps c.fault_in.result old new c.fault_in.ensures.fault c.fault_in.ensures.enough
    (caused-full 0 1 0 1000000 (Poll c.args.port c.args.frame) old new h)

pub follow-requires-clause-kept : goal.follow-requires-clause-kept
follow-requires-clause-kept c =
    let h = rw c.in-Ok-Done.field-0-is at c.in-Ok-Done.ensures in
    h.4 ∙ c.requires.kept
