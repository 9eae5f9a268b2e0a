use Rattle.std.proofs.Common.{◌≡◌, drop}
use Rattle.std.specs.List.{list_all}
use Rattle.pb_rstp.specs.Settling.{nows}
use Rattle.pb_rstp.specs.Tree.{is_quiet}
use Rattle.pb_rstp.proofs.network.are_quiet.Given as goal

abbrev pub invariant-loop-p : goal.invariant-loop-p
invariant-loop-p l = list_all is_quiet (nows (drop l.p-index l.ports)) ≡ list_all is_quiet (nows l.ports)
