use Rattle.std.proofs.Common.{sym}
use Rattle.pb_service.specs.Refusals.{other_key}
use Rattle.pb_service.proofs.Refusing.{either}
use Rattle.pb_service.proofs.row.check_top.Goals as goal

pub returns-in-Some-clause-err : goal.returns-in-Some-clause-err
returns-in-Some-clause-err c = either _ _ _ c.unknown.ensures (other_key _ _ (sym c.in-Some.ensures))
