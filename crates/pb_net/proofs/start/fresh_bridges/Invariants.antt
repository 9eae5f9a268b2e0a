use Rattle.pb_net.specs.Starts.{AreFreshBridges}
use Rattle.pb_net.proofs.start.fresh_bridges.Given as goal

abbrev pub invariant-loop-place : goal.invariant-loop-place
invariant-loop-place l = AreFreshBridges l.plan l.is_kept l.place l.bridges.items
