use Rattle.pb_frame.proofs.TextLemmas.{last_piece}
use Rattle.pb_run_losses.proofs.losses.put_sources.Goals as goal

pub returns : goal.returns
returns c = last_piece c.put_count-2.result _ _ _ _ _ c.in_ok-put_count.ensures c.put_count-2.ensures
