use Rattle.pb_export.proofs.PartLemmas.{around_first}
use Rattle.pb_export.proofs.parts.around.Goals as goal

pub returns-clause-first : goal.returns-clause-first
returns-clause-first c = around_first c.args.middle.now c.args.text.now c.split_once.result c.split_once.ensures.cases
