use Rattle.pb_net.proofs.StartLemmas.{uses-more}
use Rattle.pb_net.proofs.start.uses.Goals as goal

pub loop-slot-preserved : goal.loop-slot-preserved
loop-slot-preserved c =
    rw c.in_ok-push.ensures.items (uses-more c.args.plan.now c.loop-slot.slot c.loop-slot.uses.items c.use_at.result
    c.loop-slot.invariant c.use_at.ensures)
