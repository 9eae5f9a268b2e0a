use Rattle.std.proofs.Common.{◌≡◌, map}
use Rattle.pb_spanning_tree.specs.TreeOf.{vectors_after}
use Rattle.pb_spanning_tree.specs.TreeVectors.{is_listed, vector_of}
use Rattle.pb_spanning_tree.proofs.tree.tree_of.Given as goal

abbrev pub invariant-loop-round : goal.invariant-loop-round
invariant-loop-round l =
    map vector_of l.vectors.items ≡ vectors_after l.plan (is_listed l.disabled) l.round
