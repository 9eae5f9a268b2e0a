use Rattle.std.proofs.Common.{[]}
use Rattle.pb_forest.proofs.PeelingLemmas.{takes-both}
use Rattle.pb_forest.proofs.peeling.peel.Goals as goal

pub loop-first-preserved : goal.loop-first-preserved
loop-first-preserved c = record {
  taken = takes-both c.args.graph.now c.loop-first.graph c.climb.new.graph [] c.loop-first.branches.items
      c.climb.new.branches.items c.loop-first.invariant.taken c.in_ok-climb.ensures.taken;
  cleared = c.in_ok-climb.ensures.cleared c.loop-first.invariant.cleared;
}
