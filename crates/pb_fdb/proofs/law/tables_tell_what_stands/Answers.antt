use Rattle.pb_fdb.proofs.LawLemmas.{tables_tell_what_stands}
use Rattle.pb_fdb.proofs.law.tables_tell_what_stands.Goals as goal

pub returns : goal.returns
returns c = tables_tell_what_stands
