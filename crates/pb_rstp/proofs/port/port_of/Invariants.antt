use Rattle.std.proofs.Common.{◌≡◌, drop}
use Rattle.pb_rstp.specs.Ports.{port_of}
use Rattle.pb_rstp.specs.Settling.{nows}
use Rattle.pb_rstp.proofs.port.port_of.Given as goal

abbrev pub invariant-loop-p : goal.invariant-loop-p
invariant-loop-p l = port_of (nows (drop l.p-index l.ports)) l.number ≡ port_of (nows l.ports) l.number
