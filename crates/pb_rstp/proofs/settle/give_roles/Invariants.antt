use Rattle.pb_rstp.specs.Settling.{moved_on, with_role}
use Rattle.pb_rstp.proofs.InPlace.{HaveChanged}
use Rattle.pb_rstp.proofs.settle.give_roles.Given as goal

abbrev pub invariant-loop-p : goal.invariant-loop-p
invariant-loop-p l = HaveChanged (moved_on (with_role l.id l.root)) l.initial.ports l.p-index l.ports
