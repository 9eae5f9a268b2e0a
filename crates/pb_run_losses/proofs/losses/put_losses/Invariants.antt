use Rattle.std.proofs.Common.{◌≡◌, ◌++◌, flat_map, string_bytes}
use Rattle.std.specs.Iterator.Adapters.{zip_first, zip_second}
use Rattle.std.specs.List.{zip}
use Rattle.std.specs.Slice.Iter.{iter_rest}
use Rattle.pb_run_losses.specs.Losses.{bridge_lines}
use Rattle.pb_run_losses.proofs.losses.put_losses.Given as goal

-- the lines so far, followed by those of the remaining bridges, are the lines of all bridges
abbrev pub invariant-loop-bridge : goal.invariant-loop-bridge
invariant-loop-bridge l =
    string_bytes l.out ++ flat_map (λ b. bridge_lines b.0.name b.1)
    (zip (iter_rest (zip_first l.bridge-iterator)) (iter_rest (zip_second l.bridge-iterator)))
    ≡ string_bytes l.initial.out ++ flat_map (λ b. bridge_lines b.0.name b.1) (zip l.plan.bridges l.tallies.bridges)
