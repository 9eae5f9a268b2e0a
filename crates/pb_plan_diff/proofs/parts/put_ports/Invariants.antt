use Rattle.std.proofs.Common.{◌≡◌, ◌++◌, drop, map}
use Rattle.pb_plan_diff.specs.Parts.{port_part}
use Rattle.pb_plan_diff.proofs.parts.put_ports.Given as goal

abbrev pub invariant-loop-port : goal.invariant-loop-port
invariant-loop-port l =
    l.parts.items ++ map (port_part l.plan) (drop l.port-index l.plan.customers) ≡ l.initial.parts.items
    ++ map (port_part l.plan) l.plan.customers
