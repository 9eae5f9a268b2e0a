use Rattle.std.proofs.Common.{◌≡◌, drop, map}
use Rattle.std.specs.List.{flat_map}
use Rattle.pb_rstp.specs.Roles.{best}
use Rattle.pb_spanning_tree.specs.TreeOf.{own_of, paths_over, paths_of}
use Rattle.pb_spanning_tree.specs.TreeVectors.{is_listed, vector_of}
use Rattle.pb_spanning_tree.proofs.tree.best_of.Given as goal

abbrev pub invariant-loop-link : goal.invariant-loop-link
invariant-loop-link l =
    best (vector_of l.root)
    (flat_map (paths_over l.plan (is_listed l.disabled) (map vector_of l.vectors) l.bridge)
    (drop l.link-index l.plan.links))
    ≡ best (own_of l.plan l.bridge)
    (paths_of l.plan (is_listed l.disabled) (map vector_of l.vectors) l.bridge)
