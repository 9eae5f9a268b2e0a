use Rattle.std.proofs.Common.{◌∙◌, sym}
use Rattle.pb_cmd_run.proofs.OpenedLemmas.{shows_length}
use Rattle.pb_cmd_run.proofs.outside.open_files.Goals as goal

pub returns-in-Ok-clause-count : goal.returns-in-Ok-clause-count
returns-in-Ok-clause-count g c =
    let opened = c.in-Ok.opened in
    opened.ok.0 ∙ shows_length opened.items c.args.specs.items c.in-Ok.ensures.ok.1 ∙ sym c.args.specs.ok.0
