use Rattle.std.proofs.Common.{◌≡◌, drop}
use Rattle.std.specs.List.{list_any}
use Rattle.pb_frame.specs.Admission.{same}
use Rattle.pb_converge.specs.Falls.{is_bridge}
use Rattle.pb_converge.proofs.falling.is_bridge.Given as goal

abbrev pub invariant-loop-bridge : goal.invariant-loop-bridge
invariant-loop-bridge l =
    list_any (λ x. same l.name x.name) (drop l.bridge-index l.plan.bridges) ≡ is_bridge l.plan l.name
