use Rattle.std.proofs.Common.{sym, ◌∙◌}
use Rattle.std.proofs.lemmas.Result.{err_from_is_err_and}
use Rattle.pb_messages.specs.BadLines.{longest_line}
use Rattle.pb_cmd_step.specs.declared.testing.Mode.TheVariants.{Test}
use Rattle.pb_cmd_step.proofs.StepLemmas.{steps_unread}
use Rattle.pb_cmd_step.proofs.steps.test_steps.Goals as goal

pub returns-in_err-clone-clause-part : goal.returns-in_err-clone-clause-part
returns-in_err-clone-clause-part g c =
    let p = err_from_is_err_and c.from_residual.result c.from_residual.ensures.1 in
    rw p.1 (λ ne. steps_unread p.0 Test longest_line c.args.plan c.args.notes.now
    (g.R.Read.remaining c.args.reader.now) (g.W.Write.contents c.args.writer.now) (λ s. let e = sym p.2 ∙ s in cc))

pub returns-in_err-net-clause-part : goal.returns-in_err-net-clause-part
returns-in_err-net-clause-part g c =
    let p = err_from_is_err_and c.from_residual-in_err-net.result c.from_residual-in_err-net.ensures.1 in
    rw p.1 (λ ne. steps_unread p.0 Test longest_line c.args.plan c.args.notes.now
    (g.R.Read.remaining c.args.reader.now) (g.W.Write.contents c.args.writer.now) (λ s. let e = sym p.2 ∙ s in cc))
