use Rattle.std.proofs.Common.{◌≡◌, ◌++◌, List}
use Rattle.pb_service.specs.declared.port_spec.PortSpec.{PortSpec}
use Rattle.pb_cmd_run.proofs.taps.put_taps.Given as goal

abbrev pub invariant-loop-tap : goal.invariant-loop-tap
invariant-loop-tap l = (more : List PortSpec) × (l.specs.items ≡ l.initial.specs.items ++ more)
