use Rattle.std.proofs.Common.{◌≡◌, ◌++◌, drop, map}
use Rattle.pb_plan_diff.specs.Parts.{bridge_part}
use Rattle.pb_plan_diff.proofs.parts.put_bridges.Given as goal

abbrev pub invariant-loop-bridge : goal.invariant-loop-bridge
invariant-loop-bridge l =
    l.parts.items ++ map bridge_part (drop l.bridge-index l.plan.bridges) ≡ l.initial.parts.items
    ++ map bridge_part l.plan.bridges
