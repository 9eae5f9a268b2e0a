use Rattle.std.proofs.Common.{◌≡◌, map, take}
use Rattle.pb_step_script.proofs.names.bridge_names.Given as goal

abbrev pub invariant-loop-bridge : goal.invariant-loop-bridge
invariant-loop-bridge l = map (λ n. n.now) l.names.items ≡ map (λ b. b.name) (take l.bridge-index l.plan.bridges)
