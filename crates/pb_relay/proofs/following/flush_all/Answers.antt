use Rattle.std.proofs.Common.{get_or, take, ap, sym, ◌∙◌}
use Rattle.std.proofs.lemmas.List.{take_more}
use Rattle.pb_fdb.specs.Tables.{flushed}
use Rattle.pb_relay.specs.Moves.{all_flushed}
use Rattle.pb_relay.proofs.MovedLemmas.{all_flushed-more}
use Rattle.pb_relay.proofs.following.flush_all.Goals as goal

pub loop-port-preserved : goal.loop-port-preserved
loop-port-preserved c =
    let i = c.loop-port.port-index in
    c.flush.ensures ∙ ap (λ t. flushed t (get_or c.args.ports.now i 0)) c.loop-port.invariant
    ∙ sym (all_flushed-more c.args.table.now (take i c.args.ports.now) (get_or c.args.ports.now i 0))
    ∙ ap (all_flushed c.args.table.now) (sym (take_more c.args.ports.now i 0 c.loop-port-test.true))
