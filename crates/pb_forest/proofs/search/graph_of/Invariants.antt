use Rattle.std.proofs.Common.{◌≡◌, length, take}
use Rattle.pb_forest.specs.Counting.{IsCounted}
use Rattle.pb_forest.specs.Searching.{AreEdges}
use Rattle.pb_forest.proofs.search.graph_of.Given as goal

abbrev pub invariant-loop-link : goal.invariant-loop-link
invariant-loop-link l = record {
  counted : IsCounted l.graph;
  bridges : length l.graph.degrees.items ≡ length l.plan.bridges;
  edges : AreEdges l.plan l.shape l.vid (take l.link-index l.link-items) l.graph.links.items;
}
