use Rattle.std.proofs.Common.{◌≡◌, ◌++◌, drop, map}
use Rattle.pb_plan_diff.proofs.parts.put_names.Given as goal

abbrev pub invariant-loop-service : goal.invariant-loop-service
invariant-loop-service l =
    l.names.items ++ map (λ s. s.name) (drop l.service-index l.plan.services)
    ≡ l.initial.names.items ++ map (λ s. s.name) l.plan.services
