use Rattle.std.proofs.Common.{◌≡◌, ◌++◌, drop, map}
use Rattle.pb_cmd_draw.specs.Failures.{is_bridge_down}
use Rattle.pb_cmd_draw.proofs.failures.down_bridges.Given as goal

abbrev pub invariant-loop-bridge : goal.invariant-loop-bridge
invariant-loop-bridge l =
    l.down.items ++ map (is_bridge_down l.names) (drop l.bridge-index l.plan.bridges)
    ≡ map (is_bridge_down l.names) l.plan.bridges
