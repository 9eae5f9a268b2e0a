use Rattle.std.proofs.Common.{◌≡◌, ◌≤◌, ◌+◌, ◌++◌, length, string_bytes}
use Rattle.std.specs.Iterator.Adapters.{zip_first, zip_second}
use Rattle.std.specs.Slice.Iter.{iter_rest}
use Rattle.pb_run_losses.specs.Drops.{drops_from}
use Rattle.pb_run_losses.proofs.drops.put_drops.Given as goal

-- the lines so far, followed by those of the remaining bridges, are the lines of all bridges
abbrev pub invariant-loop-bridge : goal.invariant-loop-bridge
invariant-loop-bridge l = record {
  texts : string_bytes l.out ++ drops_from l.plan l.choice.late l.choice.lost l.number
      (iter_rest (zip_first l.bridge-iterator)) (iter_rest (zip_second l.bridge-iterator))
      ≡ string_bytes l.initial.out ++ drops_from l.plan l.choice.late l.choice.lost 1 l.plan.bridges l.tallies.bridges;
  few : l.number + length (iter_rest (zip_first l.bridge-iterator)) ≤ 33;
}
