use Rattle.std.proofs.Common.{ap, ◌∙◌, arith}
use Rattle.pb_rstp.specs.Settling.{each, moved_on, with_state}
use Rattle.pb_rstp.proofs.InPlace.{change_more, change_all}
use Rattle.pb_rstp.proofs.settle.give_states.Goals as goal

pub loop-p-preserved : goal.loop-p-preserved
loop-p-preserved c =
    change_more (moved_on (with_state c.fwd_delay_of-fwd_delay.result)) c.args.ports.now c.loop-p.ports
    c.loop-p.p-index _ c.give_state.new.p (omega arith) (omega arith) c.loop-p.invariant c.give_state.ensures

pub returns : goal.returns
returns c =
    change_all (moved_on (with_state c.fwd_delay_of-fwd_delay.result)) c.args.ports.now c.loop-p.ports
    c.loop-p.p-index (omega arith) c.loop-p.invariant
    ∙ ap (λ fwd_delay. each (with_state fwd_delay) c.args.ports.now) c.fwd_delay_of-fwd_delay.ensures
