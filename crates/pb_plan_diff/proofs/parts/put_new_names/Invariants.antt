use Rattle.std.proofs.Common.{◌≡◌, ◌++◌, ◌==◌, drop, map}
use Rattle.std.specs.List.{filter}
use Rattle.pb_names.specs.Numbers.{service_named}
use Rattle.pb_plan_diff.proofs.parts.put_new_names.Given as goal

abbrev pub invariant-loop-service : goal.invariant-loop-service
invariant-loop-service l =
    l.names.items
    ++ filter (λ n. service_named l.old n == 0) (map (λ s. s.name) (drop l.service-index l.new.services))
    ≡ l.initial.names.items ++ filter (λ n. service_named l.old n == 0) (map (λ s. s.name) l.new.services)
