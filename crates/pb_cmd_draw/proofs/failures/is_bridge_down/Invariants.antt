use Rattle.std.proofs.Common.{◌≡◌, drop, string_bytes}
use Rattle.std.specs.List.{list_any}
use Rattle.pb_frame.specs.Admission.{same}
use Rattle.pb_cmd_draw.specs.Failures.{is_bridge_down}
use Rattle.pb_cmd_draw.proofs.failures.is_bridge_down.Given as goal

abbrev pub invariant-loop-name : goal.invariant-loop-name
invariant-loop-name l =
    list_any (λ w. same (string_bytes w) l.bridge.name) (drop l.name-index l.names) ≡ is_bridge_down l.names l.bridge
