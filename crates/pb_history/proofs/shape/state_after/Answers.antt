use Rattle.std.proofs.Common.{◌∙◌}
use Rattle.pb_lan.proofs.StateLemmas.{newest-after}
use Rattle.pb_history.proofs.shape.state_after.Goals as goal

pub returns : goal.returns
returns c = c.port_state.ensures ∙ newest-after c.args.plan.now c.args.bridge c.args.port c.newest_state.result
    c.args.tally.now c.newest_state.ensures
