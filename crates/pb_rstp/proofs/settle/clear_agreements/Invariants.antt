use Rattle.pb_rstp.specs.Settling.{moved_on, without_agreement}
use Rattle.pb_rstp.proofs.InPlace.{HaveChanged}
use Rattle.pb_rstp.proofs.settle.clear_agreements.Given as goal

abbrev pub invariant-loop-p : goal.invariant-loop-p
invariant-loop-p l = HaveChanged (moved_on without_agreement) l.initial.ports l.p-index l.ports
