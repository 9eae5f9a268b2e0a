use Rattle.std.proofs.Common.{◌≡◌, drop}
use Rattle.pb_rstp.specs.Ports.{root_info}
use Rattle.pb_rstp.specs.Settling.{nows}
use Rattle.pb_rstp.proofs.port.root_info.Given as goal

abbrev pub invariant-loop-p : goal.invariant-loop-p
invariant-loop-p l = root_info (nows (drop l.p-index l.ports)) ≡ root_info (nows l.ports)
