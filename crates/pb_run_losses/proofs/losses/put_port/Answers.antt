use Rattle.pb_frame.proofs.TextLemmas.{with_piece, last_piece}
use Rattle.pb_run_losses.proofs.losses.put_port.Goals as goal

pub returns : goal.returns
returns c = last_piece c.put_count-4.result _ _ _ _ _
    (with_piece _ _ _ _ _ (with_piece _ _ _ _ _ c.in_ok-put_count.ensures c.in_ok-put_count-2.ensures)
    c.in_ok-put_count-3.ensures) c.put_count-4.ensures
