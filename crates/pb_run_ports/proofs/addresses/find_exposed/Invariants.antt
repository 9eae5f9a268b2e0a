use Rattle.std.proofs.Common.{take, All}
use Rattle.pb_run_ports.specs.Addresses.{IsInside}
use Rattle.pb_run_ports.proofs.addresses.find_exposed.Given as goal

abbrev pub invariant-loop-place : goal.invariant-loop-place
invariant-loop-place l = All IsInside (take l.place l.specs)
