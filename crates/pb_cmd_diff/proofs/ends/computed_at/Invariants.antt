use Rattle.std.proofs.Common.{◌≡◌, ◌==◌, drop}
use Rattle.pb_frame.specs.Lists.{first}
use Rattle.pb_rstp.specs.Ports.{port_of}
use Rattle.pb_cmd_diff.proofs.ends.computed_at.Given as goal

-- the first port of this number from here on is the first of all
abbrev pub invariant-loop-place : goal.invariant-loop-place
invariant-loop-place l = first (λ p. p.number == l.port) (drop l.place l.machine.ports) ≡ port_of l.machine.ports l.port
