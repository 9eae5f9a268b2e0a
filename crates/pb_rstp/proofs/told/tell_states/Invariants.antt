use Rattle.std.proofs.Common.{◌≡◌, take}
use Rattle.pb_rstp.specs.Readings.{states_of}
use Rattle.pb_rstp.specs.Settling.{nows}
use Rattle.pb_rstp.proofs.told.tell_states.Given as goal

abbrev pub invariant-loop-i : goal.invariant-loop-i
invariant-loop-i l = take l.i l.states ≡ take l.i (states_of (nows l.ports))
