use Rattle.std.proofs.Common.{◌≢◌, ◌+◌, ◌<◌, ℕ, length}
use Rattle.pb_forest.proofs.PeelingLemmas.{left}
use Rattle.pb_forest.specs.Counting.{IsCleared, TakesOff}
use Rattle.pb_forest.specs.Graphs.{degree}
use Rattle.pb_forest.proofs.peeling.climb.Given as goal

abbrev pub invariant-loop-branch : goal.invariant-loop-branch
invariant-loop-branch l = record {
  taken : TakesOff l.fn.graph l.graph l.fn.branches.items l.branches.items;
  there : l.bridge < length l.graph.degrees.items;
  cleared : IsCleared l.first l.fn.graph → (x : ℕ) → x < l.first + 1 → x ≢ l.bridge → degree l.graph.links.items x ≢ 1;
}

abbrev pub decreases-loop-branch : goal.decreases-loop-branch
decreases-loop-branch l = left l.graph.links.items
