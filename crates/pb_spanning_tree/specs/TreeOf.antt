-- The spanning tree of a plan in which some ends of links are disabled (IEEE 802.1D-2004 clauses 17.5 to 17.7): a
-- function of these two alone.
use Rattle.std.specs.Prelude.{ℕ, zero, suc, ◌+◌, Bool, List, [], ◌∷◌, ◌++◌, map, length, unwrap_or, ◌==◌, ◌&&◌, ◌||◌, not, if◌then◌else◌}
use Rattle.std.specs.List.{flat_map}
use Rattle.pb_lan.specs.Numbering.{numbered, numbers_from}
use Rattle.pb_lan.specs.declared.plan.Plan.{Plan}
use Rattle.pb_lan.specs.declared.plan.End.{End}
use Rattle.pb_lan.specs.declared.plan.LinkPlan.{LinkPlan}
use Rattle.pb_rstp.specs.Profile.{id_in}
use Rattle.pb_rstp.specs.Roles.{best}
use Rattle.pb_rstp.specs.Vectors.{is_before, own_vector, port_id}
use Rattle.pb_rstp.specs.declared.vector.Vector.{Vector}
use Rattle.pb_rstp.specs.declared.role.Role.{Role}
use Rattle.pb_rstp.specs.declared.role.Role.TheVariants.{Disabled, Root, Designated, Alternate, Backup}

-- whether the port with the second number of the bridge with the first one is disabled
abbrev pub Disabling : Type 0
Disabling = ℕ → ℕ → Bool

-- the end of a link is disabled
abbrev pub is_down : Disabling → End → Bool
is_down disabled e = disabled e.bridge e.port

-- both ends of a link are enabled
abbrev pub is_enabled : Disabling → LinkPlan → Bool
is_enabled disabled link = not (is_down disabled link.a) && not (is_down disabled link.b)

-- the identifier of the port at an end of a link (clause 9.2.7)
abbrev pub end_id : End → ℕ
end_id e = port_id e.priority e.port

-- the vector of the bridge with this number
abbrev pub vector_in : List Vector → ℕ → Vector
vector_in vectors bridge = unwrap_or (numbered vectors bridge) (own_vector 0)

-- the path to the root over a link, from its near end: the far bridge's root, at the far bridge's cost and the cost of
-- the near port (clause 17.6)
abbrev pub path_over : Plan → List Vector → End → End → Vector
path_over plan vectors near far = record {
  root = (vector_in vectors far.bridge).root;
  cost = (vector_in vectors far.bridge).cost + near.cost;
  bridge = id_in plan far.bridge;
  port = end_id far;
  receiving = end_id near;
}

-- the path of a bridge over a link whose near end is its own and whose far end is at another bridge
abbrev pub path_from : Plan → List Vector → ℕ → End → End → List Vector
path_from plan vectors bridge near far =
    if near.bridge == bridge && not (far.bridge == bridge) then path_over plan vectors near far ∷ [] else []

-- the paths of a bridge over one link, if both its ends are enabled
abbrev pub paths_over : Plan → Disabling → List Vector → ℕ → LinkPlan → List Vector
paths_over plan disabled vectors bridge link =
    if is_enabled disabled link
    then path_from plan vectors bridge link.a link.b ++ path_from plan vectors bridge link.b link.a else []

-- the paths of a bridge over all links
abbrev pub paths_of : Plan → Disabling → List Vector → ℕ → List Vector
paths_of plan disabled vectors bridge = flat_map (paths_over plan disabled vectors bridge) plan.links

-- the bridge's own vector: it is itself the root
abbrev pub own_of : Plan → ℕ → Vector
own_of plan bridge = own_vector (id_in plan bridge)

-- each bridge takes the best of its own vector and its paths (clause 17.6)
abbrev pub next_vectors : Plan → Disabling → List Vector → List Vector
next_vectors plan disabled vectors =
    map (λ bridge. best (own_of plan bridge) (paths_of plan disabled vectors bridge)) (numbers_from 1 plan.bridges)

-- each bridge takes itself for the root, and then so often the best of its paths
abbrev pub vectors_after : Plan → Disabling → ℕ → List Vector
vectors_after plan disabled zero = map (own_of plan) (numbers_from 1 plan.bridges)
vectors_after plan disabled (suc n) = next_vectors plan disabled (vectors_after plan disabled n)

-- the root priority vectors of the bridges in the spanning tree, in the plan's order: as often as there are bridges
abbrev pub tree_of : Plan → Disabling → List Vector
tree_of plan disabled = vectors_after plan disabled (length plan.bridges)

-- what the port at an end offers on its link: root, cost, bridge and port (clause 17.6)
abbrev pub offer_by : Plan → List Vector → End → List ℕ
offer_by plan vectors e =
    (vector_in vectors e.bridge).root ∷ (vector_in vectors e.bridge).cost ∷ id_in plan e.bridge ∷ end_id e ∷ []

-- the end is the Root port of its bridge: the bridge's vector came in there
abbrev pub is_root_end : List Vector → End → Bool
is_root_end vectors e = (vector_in vectors e.bridge).receiving == end_id e

-- the role of an enabled port that is not the Root port, by which end of its link offers more: if the far end is
-- disabled, it is Designated (clause 17.7)
abbrev pub other_role_by : Plan → Disabling → List Vector → End → End → Role
other_role_by plan disabled vectors near far =
    if is_down disabled far || is_before (offer_by plan vectors near) (offer_by plan vectors far)
    then Designated
    else (if near.bridge == far.bridge then Backup else Alternate)

-- the role of the port at the near end of a link (clause 17.7)
abbrev pub role_by : Plan → Disabling → List Vector → End → End → Role
role_by plan disabled vectors near far =
    if is_down disabled near then Disabled
    else (if is_root_end vectors near then Root else other_role_by plan disabled vectors near far)

-- the role of the port at the near end of a link in the spanning tree
abbrev pub role_of : Plan → Disabling → End → End → Role
role_of plan disabled near far = role_by plan disabled (tree_of plan disabled) near far

-- the link is one of the tree with these vectors: both ends are enabled, and one is a Root port
abbrev pub is_link_by : Disabling → List Vector → LinkPlan → Bool
is_link_by disabled vectors link =
    is_enabled disabled link && (is_root_end vectors link.a || is_root_end vectors link.b)

-- the link is one of the spanning tree
abbrev pub is_tree_link : Plan → Disabling → LinkPlan → Bool
is_tree_link plan disabled link = is_link_by disabled (tree_of plan disabled) link
