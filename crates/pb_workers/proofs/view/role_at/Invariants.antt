use Rattle.std.proofs.Common.{◌≡◌, drop}
use Rattle.pb_frame.specs.Lists.{first}
use Rattle.pb_workers.specs.Bridges.{is_of_port}
use Rattle.pb_workers.proofs.view.role_at.Given as goal

abbrev pub invariant-loop-number : goal.invariant-loop-number
invariant-loop-number l = first (is_of_port l.port) (drop l.number-index l.roles) ≡ first (is_of_port l.port) l.roles
