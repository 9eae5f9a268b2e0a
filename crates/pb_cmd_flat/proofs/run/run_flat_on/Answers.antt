use Rattle.std.proofs.Common.{sym, ◌∙◌}
use Rattle.pb_messages.specs.BadLines.{longest_line}
use Rattle.std.proofs.lemmas.Result.{err_from_is_err_and}
use Rattle.pb_cmd_flat.proofs.RunLemmas.{begins}
use Rattle.pb_cmd_flat.proofs.run.run_flat_on.Goals as goal

pub returns-in_err-lines-clause-part : goal.returns-in_err-lines-clause-part
returns-in_err-lines-clause-part g c =
    let p = err_from_is_err_and c.from_residual.result c.from_residual.ensures.1 in
    rw p.1 (λ ne. begins p.0 longest_line c.args.switch.now.ports (g.R.Read.remaining c.args.reader.now)
    (g.W.Write.contents c.args.writer.now) (λ s. let e = sym p.2 ∙ s in cc))
