use Rattle.pb_rstp.proofs.InPlace.{HaveChanged, undone}
use Rattle.pb_rstp.proofs.own_change.undo.Given as goal

abbrev pub invariant-loop-p : goal.invariant-loop-p
invariant-loop-p l = HaveChanged undone l.initial.ports l.p-index l.ports
