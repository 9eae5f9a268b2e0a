use Rattle.std.proofs.Common.{◌≡◌, drop}
use Rattle.pb_service.specs.UsedPorts.{is_used}
use Rattle.pb_service.proofs.used.is_used.Given as goal

abbrev pub invariant-loop-other : goal.invariant-loop-other
invariant-loop-other l = is_used l.used l.port ≡ is_used (drop l.other-index l.used) l.port
