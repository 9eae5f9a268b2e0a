use Rattle.pb_standstill.proofs.StandstillLaw.{nothing_waits_or_moves}
use Rattle.pb_standstill.proofs.laws.nothing_waits_or_moves.Goals as goal

pub returns : goal.returns
returns c = nothing_waits_or_moves
