use Rattle.pb_rstp.specs.Settling.{moved_on, without_info}
use Rattle.pb_rstp.proofs.InPlace.{HaveChanged}
use Rattle.pb_rstp.proofs.settle.clear_infos.Given as goal

abbrev pub invariant-loop-p : goal.invariant-loop-p
invariant-loop-p l = HaveChanged (moved_on without_info) l.initial.ports l.p-index l.ports
