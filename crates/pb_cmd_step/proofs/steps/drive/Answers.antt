use Rattle.std.proofs.Common.{◌≢◌, refl, sym, subst, ◌∙◌}
use Rattle.std.proofs.lemmas.Result.{err_from_is_err_and}
use Rattle.std.proofs.lemmas.Result.{on_ok_weaker}
use Rattle.pb_lan.specs.Records.{IsLawfulRecord}
use Rattle.pb_relay.specs.Protocol.{spanning_tree}
use Rattle.pb_relay.specs.Settled.{TellsSettled}
use Rattle.pb_cmd_step.specs.Modes.{HaveAnswered, PrintsLinesBeginning, noted}
use Rattle.pb_messages.specs.declared.fault.CommandFault.TheVariants.{Write, Memory}
use Rattle.pb_cmd_step.proofs.StepLemmas.{steps_unread, reported, unreported, part_reported, on_err}
use Rattle.pb_cmd_step.proofs.steps.drive.Goals as goal

pub returns-in_err-names-clause-part : goal.returns-in_err-names-clause-part
returns-in_err-names-clause-part g c =
    let p = err_from_is_err_and c.from_residual.result c.from_residual.ensures.1 in
    rw p.1 (λ ne. steps_unread p.0 c.args.mode c.args.limit c.args.plan.now c.args.notes.now
    (g.R.Read.remaining c.args.reader.now)
    (g.W.Write.contents c.args.writer.now) (λ s. let e = sym p.2 ∙ s in cc))

pub returns-in_err-lines-clause-part : goal.returns-in_err-lines-clause-part
returns-in_err-lines-clause-part g c =
    let p = err_from_is_err_and c.from_residual-in_err-lines.result c.from_residual-in_err-lines.ensures.1 in
    rw p.1 (λ ne. steps_unread p.0 c.args.mode c.args.limit c.args.plan.now c.args.notes.now
    (g.R.Read.remaining c.args.reader.now)
    (g.W.Write.contents c.args.writer.now) (λ s. let e = sym p.2 ∙ s in cc))

pub returns-in_err-answer_steps-clause-part : goal.returns-in_err-answer_steps-clause-part
returns-in_err-answer_steps-clause-part g c =
    let p = err_from_is_err_and c.from_residual-in_err-answer_steps.result
    c.from_residual-in_err-answer_steps.ensures.1 in
    let input = g.R.Read.remaining c.args.reader.now in
    let before = g.W.Write.contents c.args.writer.now in
    let after = g.W.Write.contents c.answer_steps.new.writer in
    let part = subst (λ plan. c.in_err-answer_steps.field-0.0 ≢ Write → PrintsLinesBeginning
    c.in_err-answer_steps.field-0.0 c.args.mode c.args.limit plan input c.args.notes.now before after)
    c.in_ok-names.ensures
    c.in_err-answer_steps.ensures.part in
    rw p.1 (subst (λ e. e ≢ Write → PrintsLinesBeginning e c.args.mode c.args.limit c.args.plan.now input
    c.args.notes.now before after) (sym p.2)
    part)

pub write_report-requires-clause-settled : goal.write_report-requires-clause-settled
write_report-requires-clause-settled g c =
    subst (λ r. TellsSettled c.args.plan.now r c.in-Ok.settled) (sym c.finish-rec.ensures.record) c.in-Ok.ensures.ok

pub returns-in-Ok-clause-ok : goal.returns-in-Ok-clause-ok
returns-in-Ok-clause-ok g c =
    let plan = c.args.plan.now in
    let input = g.R.Read.remaining c.args.reader.now in
    let before = g.W.Write.contents c.args.writer.now in
    let now = g.W.Write.contents c.answer_steps.new.writer in
    let last = noted c.answer_steps.new.net c.answer_steps.new.notes in
    let answered = subst (λ p. HaveAnswered c.args.mode c.args.limit p input c.args.notes.now before now last)
    c.in_ok-names.ensures
    c.in_ok-answer_steps.ensures.ok in
    let lawful = subst (λ p. IsLawfulRecord spanning_tree p c.finish-rec.result)
    (c.in_ok-answer_steps.ensures.net.0 ∙ c.in_ok-names.ensures) c.finish-rec.ensures.lawful in
    on_ok_weaker c.write_report.result
    (λ r. reported c.args.mode c.args.limit plan c.args.notes.now input before now
    (g.W.Write.contents c.write_report.new.writer) last
    c.finish-rec.result r.0 answered c.finish-rec.ensures.record lawful r.1 r.2)
    c.write_report.ensures.ok

pub returns-in-Ok-clause-part : goal.returns-in-Ok-clause-part
returns-in-Ok-clause-part g c =
    let plan = c.args.plan.now in
    let input = g.R.Read.remaining c.args.reader.now in
    let before = g.W.Write.contents c.args.writer.now in
    let now = g.W.Write.contents c.answer_steps.new.writer in
    let last = noted c.answer_steps.new.net c.answer_steps.new.notes in
    let answered = subst (λ p. HaveAnswered c.args.mode c.args.limit p input c.args.notes.now before now last)
    c.in_ok-names.ensures
    c.in_ok-answer_steps.ensures.ok in
    on_err c.write_report.result
    (λ e other keeps ne. unreported e c.args.mode c.args.limit plan c.args.notes.now input before now
    (g.W.Write.contents c.write_report.new.writer) last answered (keeps ne) other)
    c.write_report.ensures.steps c.write_report.ensures.part

pub returns-in_err-write_record-in-Err-clause-part : goal.returns-in_err-write_record-in-Err-clause-part
returns-in_err-write_record-in-Err-clause-part g c =
    let p = err_from_is_err_and c.from_residual-in_err-write_record-in-Err.result
    c.from_residual-in_err-write_record-in-Err.ensures.1 in
    let plan = c.args.plan.now in
    let input = g.R.Read.remaining c.args.reader.now in
    let before = g.W.Write.contents c.args.writer.now in
    let now = g.W.Write.contents c.answer_steps.new.writer in
    let last = noted c.answer_steps.new.net c.answer_steps.new.notes in
    let answered = subst (λ p. HaveAnswered c.args.mode c.args.limit p input c.args.notes.now before now last)
    c.in_ok-names.ensures
    c.in_ok-answer_steps.ensures.ok in
    let after = g.W.Write.contents c.write_record.new.writer in
    let part : c.in_err-write_record-in-Err.field-0.0 ≢ Write
    → PrintsLinesBeginning c.in_err-write_record-in-Err.field-0.0 c.args.mode c.args.limit plan input c.args.notes.now
    before after =
    λ ne. unreported c.in_err-write_record-in-Err.field-0.0 c.args.mode c.args.limit plan c.args.notes.now input
    before now
    after last answered
    (c.in_err-write_record-in-Err.ensures.part ne) c.in_err-write_record-in-Err.ensures.steps in
    rw p.1 (subst (λ e. e ≢ Write → PrintsLinesBeginning e c.args.mode c.args.limit plan input c.args.notes.now before
    after) (sym p.2) part)

pub returns-clause-part : goal.returns-clause-part
returns-clause-part g c =
    let plan = c.args.plan.now in
    let input = g.R.Read.remaining c.args.reader.now in
    let before = g.W.Write.contents c.args.writer.now in
    let now = g.W.Write.contents c.answer_steps.new.writer in
    let last = noted c.answer_steps.new.net c.answer_steps.new.notes in
    let answered = subst (λ p. HaveAnswered c.args.mode c.args.limit p input c.args.notes.now before now last)
    c.in_ok-names.ensures
    c.in_ok-answer_steps.ensures.ok in
    let lawful = subst (λ p. IsLawfulRecord spanning_tree p c.finish-rec.result)
    (c.in_ok-answer_steps.ensures.net.0 ∙ c.in_ok-names.ensures) c.finish-rec.ensures.lawful in
    let told = c.in_ok-write_record-in-Err.ensures.ok in
    λ ne. part_reported Memory c.args.mode c.args.limit plan c.args.notes.now input before now
    (g.W.Write.contents c.write_record.new.writer) last
    c.finish-rec.result told.0
    answered c.finish-rec.ensures.record lawful refl c.in-Err.ensures.err told.1 told.2
