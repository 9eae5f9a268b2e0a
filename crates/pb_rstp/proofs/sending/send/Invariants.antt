use Rattle.pb_rstp.specs.Settling.{moved_on, after_sending}
use Rattle.pb_rstp.proofs.InPlace.{HaveChanged}
use Rattle.pb_rstp.proofs.sending.send.Given as goal

abbrev pub invariant-loop-p : goal.invariant-loop-p
invariant-loop-p l = HaveChanged (moved_on after_sending) l.initial.ports l.p-index l.ports
