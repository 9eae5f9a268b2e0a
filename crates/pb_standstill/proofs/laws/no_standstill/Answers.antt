use Rattle.pb_standstill.proofs.StandstillLaw.{no_standstill}
use Rattle.pb_standstill.proofs.laws.no_standstill.Goals as goal

pub returns : goal.returns
returns c = no_standstill
