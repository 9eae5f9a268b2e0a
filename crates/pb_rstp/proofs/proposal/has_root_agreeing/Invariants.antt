use Rattle.std.proofs.Common.{◌≡◌, drop}
use Rattle.std.specs.List.{list_any}
use Rattle.pb_rstp.specs.Settling.{is_root_agreeing, nows}
use Rattle.pb_rstp.proofs.proposal.has_root_agreeing.Given as goal

abbrev pub invariant-loop-p : goal.invariant-loop-p
invariant-loop-p l =
    list_any (is_root_agreeing l.number) (nows (drop l.p-index l.ports))
    ≡ list_any (is_root_agreeing l.number) (nows l.ports)
