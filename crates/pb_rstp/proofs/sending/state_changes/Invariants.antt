use Rattle.std.proofs.Common.{◌≡◌, ◌++◌, drop}
use Rattle.pb_rstp.specs.Settling.{state_changes}
use Rattle.pb_rstp.proofs.sending.state_changes.Given as goal

abbrev pub invariant-loop-p : goal.invariant-loop-p
invariant-loop-p l = l.changes.items ++ state_changes (drop l.p-index l.ports) ≡ state_changes l.ports
