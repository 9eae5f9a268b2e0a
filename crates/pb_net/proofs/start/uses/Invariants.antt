use Rattle.pb_net.specs.Starts.{AreUses}
use Rattle.pb_net.proofs.start.uses.Given as goal

abbrev pub invariant-loop-slot : goal.invariant-loop-slot
invariant-loop-slot l = AreUses l.plan l.slot l.uses.items
