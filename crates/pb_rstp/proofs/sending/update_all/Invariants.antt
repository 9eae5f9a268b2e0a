use Rattle.pb_rstp.specs.Settling.{moved_on, with_update}
use Rattle.pb_rstp.proofs.InPlace.{HaveChanged}
use Rattle.pb_rstp.proofs.sending.update_all.Given as goal

abbrev pub invariant-loop-p : goal.invariant-loop-p
invariant-loop-p l = HaveChanged (moved_on (with_update l.id l.before l.after)) l.initial.ports l.p-index l.ports
