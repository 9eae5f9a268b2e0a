use Rattle.std.proofs.Common.{◌<◌, List, [], ◌∷◌, ◌++◌, length, take, subst, sym, ◌∙◌, ap, arith}
use Rattle.std.proofs.lemmas.List.{take_more}
use Rattle.pb_frame.proofs.Things.{here_is}
use Rattle.pb_lan.specs.declared.event.Event.{Event}
use Rattle.pb_net.specs.Answers.{HaveRun}
use Rattle.pb_net.proofs.Records.{run_stopped, run_more}
use Rattle.pb_net.proofs.net.Net.run.Goals as goal

pub returns-in-Err-clause-fault : goal.returns-in-Err-clause-fault
returns-in-Err-clause-fault c =
    let event = c.index-events-count.result in
    let within : c.loop-count.count < length c.args.events.now = omega arith in
    run_stopped c.args.self.now c.loop-count.self c.act.new.self c.args.events.now c.loop-count.count event
    c.in-Err.fault
    (here_is c.args.events.now c.loop-count.count event within c.index-events-count.is) c.loop-count.invariant
    c.in-Err.ensures

pub loop-count-preserved : goal.loop-count-preserved
loop-count-preserved c =
    let event = c.index-events-count.result in
    let within : c.loop-count.count < length c.args.events.now = omega arith in
    let more = take_more c.args.events.now c.loop-count.count event within in
    subst (λ (es : List Event). HaveRun c.args.self.now es c.act.new.self)
    (ap (λ (e : Event). take c.loop-count.count c.args.events.now ++ e ∷ []) c.index-events-count.is ∙ sym more)
    (run_more c.args.self.now c.loop-count.self c.act.new.self (take c.loop-count.count c.args.events.now) event
    c.in_default.field-0 c.loop-count.invariant c.in_default.ensures)
