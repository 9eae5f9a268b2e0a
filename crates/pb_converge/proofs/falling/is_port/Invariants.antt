use Rattle.std.proofs.Common.{◌≡◌, drop}
use Rattle.std.specs.List.{list_any}
use Rattle.pb_converge.specs.Falls.{has_port, is_port}
use Rattle.pb_converge.proofs.falling.is_port.Given as goal

abbrev pub invariant-loop-link : goal.invariant-loop-link
invariant-loop-link l = list_any (has_port l.plan l.name) (drop l.link-index l.plan.links) ≡ is_port l.plan l.name
