use Rattle.std.proofs.Common.{[]}
use Rattle.pb_forest.specs.Counting.{IsCleared, TakesOff}
use Rattle.pb_forest.proofs.peeling.peel.Given as goal

abbrev pub invariant-loop-first : goal.invariant-loop-first
invariant-loop-first l = record {
  taken : TakesOff l.fn.graph l.graph [] l.branches.items;
  cleared : IsCleared l.first l.graph;
}
