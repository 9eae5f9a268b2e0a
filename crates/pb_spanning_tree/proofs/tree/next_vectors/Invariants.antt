use Rattle.std.proofs.Common.{◌≡◌, map, take}
use Rattle.pb_lan.specs.Numbering.{numbers_from}
use Rattle.pb_rstp.specs.Roles.{best}
use Rattle.pb_spanning_tree.specs.TreeOf.{own_of, paths_of}
use Rattle.pb_spanning_tree.specs.TreeVectors.{is_listed, vector_of}
use Rattle.pb_spanning_tree.proofs.tree.next_vectors.Given as goal

abbrev pub invariant-loop-place : goal.invariant-loop-place
invariant-loop-place l =
    map vector_of l.next.items
    ≡ map (λ bridge. best (own_of l.plan bridge)
    (paths_of l.plan (is_listed l.disabled) (map vector_of l.vectors) bridge))
    (take l.place (numbers_from 1 l.plan.bridges))
