use Rattle.std.proofs.Common.{◌≡◌, take}
use Rattle.pb_rstp.specs.Settling.{nows}
use Rattle.pb_rstp.proofs.port.are_same.Given as goal

abbrev pub invariant-loop-i : goal.invariant-loop-i
invariant-loop-i l = take l.i (nows l.a) ≡ take l.i (nows l.b)
