use Rattle.std.proofs.Common.{◌≡◌, drop}
use Rattle.std.specs.List.{list_any}
use Rattle.pb_frame.specs.Admission.{same}
use Rattle.pb_service.proofs.bridge.has_address.Given as goal

abbrev pub invariant-loop-bridge : goal.invariant-loop-bridge
invariant-loop-bridge l = list_any (λ b. same b.address.0 l.address.0) l.bridges ≡ list_any
    (λ b. same b.address.0 l.address.0) (drop l.bridge-index l.bridges)
