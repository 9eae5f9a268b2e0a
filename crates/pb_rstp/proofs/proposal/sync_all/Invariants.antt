use Rattle.pb_rstp.specs.Settling.{moved_on, synced}
use Rattle.pb_rstp.proofs.InPlace.{HaveChanged}
use Rattle.pb_rstp.proofs.proposal.sync_all.Given as goal

abbrev pub invariant-loop-p : goal.invariant-loop-p
invariant-loop-p l = HaveChanged (moved_on (synced l.fwd_delay)) l.initial.ports l.p-index l.ports
