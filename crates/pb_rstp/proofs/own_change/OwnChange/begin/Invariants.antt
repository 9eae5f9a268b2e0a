use Rattle.pb_rstp.specs.Machine.{own_change}
use Rattle.pb_rstp.proofs.InPlace.{HaveChanged, begun}
use Rattle.pb_rstp.proofs.own_change.OwnChange.begin.Given as goal

abbrev pub invariant-loop-p : goal.invariant-loop-p
invariant-loop-p l = HaveChanged (begun (own_change l.self)) l.initial.ports l.p-index l.ports
