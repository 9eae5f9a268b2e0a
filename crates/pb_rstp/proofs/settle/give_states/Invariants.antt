use Rattle.pb_rstp.specs.Settling.{moved_on, with_state}
use Rattle.pb_rstp.proofs.InPlace.{HaveChanged}
use Rattle.pb_rstp.proofs.settle.give_states.Given as goal

abbrev pub invariant-loop-p : goal.invariant-loop-p
invariant-loop-p l = HaveChanged (moved_on (with_state l.fwd_delay)) l.initial.ports l.p-index l.ports
