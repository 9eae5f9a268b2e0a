use Rattle.std.proofs.Common.{◌≡◌, ◌+◌, ◌++◌, drop}
use Rattle.pb_cmd_survive.specs.Groups.{ports_from, ports_of}
use Rattle.pb_cmd_survive.proofs.sites.ports_of.Given as goal

abbrev pub invariant-loop-place : goal.invariant-loop-place
invariant-loop-place l =
    l.ports.items ++ ports_from l.service (l.place + 1) (drop l.place l.plan.customers) ≡ ports_of l.plan l.service
