use Rattle.std.proofs.Common.{◌≢◌, sym, subst, ◌∙◌}
use Rattle.std.specs.Prelude.{IfErr}
use Rattle.pb_messages.specs.declared.fault.CommandFault.TheVariants.{Write}
use Rattle.pb_cmd_flat.specs.Progress.{PrintsBeginning}
use Rattle.pb_cmd_flat.specs.Switches.{SwitchView}
use Rattle.pb_messages.specs.BadLines.{longest_line}
use Rattle.std.proofs.lemmas.Result.{err_from_is_err_and}
use Rattle.pb_cmd_flat.proofs.RunLemmas.{begins}
use Rattle.pb_cmd_flat.proofs.run.run_flat.Goals as goal

pub returns-in_err-switch-clause-part : goal.returns-in_err-switch-clause-part
returns-in_err-switch-clause-part g c =
    let p = err_from_is_err_and c.from_residual.result c.from_residual.ensures.1 in
    rw p.1 (λ ne. begins p.0 longest_line c.args.ports (g.R.Read.remaining c.args.reader.now)
    (g.W.Write.contents c.args.writer.now) (λ s. let e = sym p.2 ∙ s in cc))

pub returns-clause-part : goal.returns-clause-part
returns-clause-part g c =
    subst (λ (v : SwitchView). IfErr c.run_flat_on.result (λ e. e ≢ Write
    → PrintsBeginning e longest_line v.ports (g.R.Read.remaining c.args.reader.now)
    (g.W.Write.contents c.args.writer.now) (g.W.Write.contents c.run_flat_on.new.writer)))
    c.in_ok-switch.ensures c.run_flat_on.ensures.part
