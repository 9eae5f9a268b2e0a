use Rattle.std.proofs.Common.{◌≡◌, ◌++◌, drop, map}
use Rattle.pb_plan_diff.specs.Parts.{service_part}
use Rattle.pb_plan_diff.proofs.parts.put_services.Given as goal

abbrev pub invariant-loop-service : goal.invariant-loop-service
invariant-loop-service l =
    l.parts.items ++ map service_part (drop l.service-index l.plan.services) ≡ l.initial.parts.items
    ++ map service_part l.plan.services
