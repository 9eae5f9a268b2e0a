use Rattle.std.proofs.Common.{◌≡◌, map, take}
use Rattle.pb_lan.specs.Ports.{local_ports}
use Rattle.pb_lan.specs.Shapes.{state_after}
use Rattle.pb_history.proofs.shape.states_after.Given as goal

abbrev pub invariant-loop-place : goal.invariant-loop-place
invariant-loop-place l = l.states.items ≡ map (state_after l.plan l.bridge l.tally) (take l.place local_ports)
