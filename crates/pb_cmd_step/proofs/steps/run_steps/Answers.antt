use Rattle.std.proofs.Common.{sym, ◌∙◌}
use Rattle.std.proofs.lemmas.Result.{err_from_is_err_and}
use Rattle.std.proofs.lemmas.Result.{IfErr-weaker, on_ok_weaker}
use Rattle.pb_messages.specs.BadLines.{longest_line}
use Rattle.pb_cmd_step.proofs.StepLemmas.{plain_begins, plain_prints, plain_unread}
use Rattle.pb_cmd_step.proofs.steps.run_steps.Goals as goal

pub returns-in_err-clone-clause-part : goal.returns-in_err-clone-clause-part
returns-in_err-clone-clause-part g c =
    let p = err_from_is_err_and c.from_residual.result c.from_residual.ensures.1 in
    rw p.1 (λ ne. plain_unread p.0 longest_line c.args.plan (g.R.Read.remaining c.args.reader.now)
    (g.W.Write.contents c.args.writer.now) (λ s. let e = sym p.2 ∙ s in cc))

pub returns-in_err-net-clause-part : goal.returns-in_err-net-clause-part
returns-in_err-net-clause-part g c =
    let p = err_from_is_err_and c.from_residual-in_err-net.result c.from_residual-in_err-net.ensures.1 in
    rw p.1 (λ ne. plain_unread p.0 longest_line c.args.plan (g.R.Read.remaining c.args.reader.now)
    (g.W.Write.contents c.args.writer.now) (λ s. let e = sym p.2 ∙ s in cc))

pub returns-clause-ok : goal.returns-clause-ok
returns-clause-ok g c =
    on_ok_weaker c.drive.result (plain_prints longest_line c.args.plan (g.R.Read.remaining c.args.reader.now)
    c.new-notes.result c.drive.new.notes (g.W.Write.contents c.args.writer.now) (g.W.Write.contents c.drive.new.writer))
    c.drive.ensures.ok

pub returns-clause-part : goal.returns-clause-part
returns-clause-part g c =
    IfErr-weaker c.drive.result _ _
    (λ e part ne. plain_begins e longest_line c.args.plan (g.R.Read.remaining c.args.reader.now) c.new-notes.result
    (g.W.Write.contents c.args.writer.now) (g.W.Write.contents c.drive.new.writer) (part ne))
    c.drive.ensures.part
