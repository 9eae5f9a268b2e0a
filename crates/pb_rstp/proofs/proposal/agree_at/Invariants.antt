use Rattle.pb_rstp.specs.Settling.{moved_on, agreeing}
use Rattle.pb_rstp.proofs.InPlace.{HaveChanged}
use Rattle.pb_rstp.proofs.proposal.agree_at.Given as goal

abbrev pub invariant-loop-p : goal.invariant-loop-p
invariant-loop-p l = HaveChanged (moved_on (agreeing l.number)) l.initial.ports l.p-index l.ports
