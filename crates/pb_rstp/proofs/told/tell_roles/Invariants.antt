use Rattle.std.proofs.Common.{◌≡◌, take}
use Rattle.pb_rstp.specs.Readings.{roles_of}
use Rattle.pb_rstp.specs.Settling.{nows}
use Rattle.pb_rstp.proofs.told.tell_roles.Given as goal

abbrev pub invariant-loop-i : goal.invariant-loop-i
invariant-loop-i l = take l.i l.roles ≡ take l.i (roles_of (nows l.ports))
