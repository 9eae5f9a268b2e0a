use Rattle.std.proofs.Common.{◌≡◌, map, take}
use Rattle.pb_lan.specs.Numbering.{numbers_from}
use Rattle.pb_spanning_tree.specs.TreeOf.{own_of}
use Rattle.pb_spanning_tree.specs.TreeVectors.{vector_of}
use Rattle.pb_spanning_tree.proofs.tree.own_vectors.Given as goal

abbrev pub invariant-loop-place : goal.invariant-loop-place
invariant-loop-place l =
    map vector_of l.vectors.items ≡ map (own_of l.plan) (take l.place (numbers_from 1 l.plan.bridges))
