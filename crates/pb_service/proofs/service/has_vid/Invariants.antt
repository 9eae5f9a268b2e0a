use Rattle.std.proofs.Common.{◌≡◌, drop}
use Rattle.std.specs.Prelude.{◌==◌}
use Rattle.std.specs.List.{list_any}
use Rattle.pb_service.proofs.service.has_vid.Given as goal

abbrev pub invariant-loop-service : goal.invariant-loop-service
invariant-loop-service l = list_any (λ s. s.vid == l.vid) l.services ≡ list_any (λ s. s.vid == l.vid)
    (drop l.service-index l.services)
