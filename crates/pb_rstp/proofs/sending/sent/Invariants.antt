use Rattle.std.proofs.Common.{◌≡◌, ◌++◌, drop}
use Rattle.pb_rstp.specs.Settling.{nows}
use Rattle.pb_rstp.proofs.SendingLaws.{sent_by}
use Rattle.pb_rstp.proofs.sending.sent.Given as goal

abbrev pub invariant-loop-p : goal.invariant-loop-p
invariant-loop-p l =
    l.bpdus.items ++ sent_by l.id l.offer (nows (drop l.p-index l.ports)) ≡ sent_by l.id l.offer (nows l.ports)
