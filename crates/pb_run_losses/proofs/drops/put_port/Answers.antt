use Rattle.pb_frame.proofs.TextLemmas.{last_piece}
use Rattle.pb_run_losses.proofs.drops.put_port.Goals as goal

pub returns : goal.returns
returns c = last_piece c.put_nowhere.result _ _ _ _ _ c.in_ok-put_reasons.ensures c.put_nowhere.ensures
