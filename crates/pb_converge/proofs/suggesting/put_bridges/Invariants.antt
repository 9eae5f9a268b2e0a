use Rattle.std.proofs.Common.{◌≡◌, ◌++◌, map, take, string_bytes}
use Rattle.pb_converge.proofs.suggesting.put_bridges.Given as goal

abbrev pub invariant-loop-bridge : goal.invariant-loop-bridge
invariant-loop-bridge l =
    map string_bytes l.names.items ≡ map string_bytes l.initial.names.items
    ++ map (λ x. x.name) (take l.bridge-index l.plan.bridges)
