use Rattle.std.proofs.Common.{length}
use Rattle.pb_forest.proofs.RootingLemmas.{RootsTo}
use Rattle.pb_forest.proofs.rooting.rooted_by.Given as goal

abbrev pub invariant-loop-branch : goal.invariant-loop-branch
invariant-loop-branch l = RootsTo l.bridges l.fn.branches.items l.branches.items l.up.items l.depth.items

abbrev pub decreases-loop-branch : goal.decreases-loop-branch
decreases-loop-branch l = length l.branches.items
