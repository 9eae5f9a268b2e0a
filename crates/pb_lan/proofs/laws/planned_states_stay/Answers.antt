use Rattle.pb_lan.proofs.Stillness.{planned_states_stay}
use Rattle.pb_lan.proofs.laws.planned_states_stay.Goals as goal

pub returns : goal.returns
returns c = planned_states_stay
