use Rattle.std.proofs.Common.{◌≡◌, ◌==◌, drop}
use Rattle.pb_frame.specs.Lists.{first}
use Rattle.pb_cmd_trace.proofs.names.name_of_vid.Given as goal

abbrev pub invariant-loop-service : goal.invariant-loop-service
invariant-loop-service l =
    first (λ s. s.vid == l.vid) (drop l.service-index l.plan.services) ≡ first (λ s. s.vid == l.vid) l.plan.services
