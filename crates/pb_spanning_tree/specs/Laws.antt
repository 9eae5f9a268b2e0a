-- The law of the one tree.
use Rattle.std.specs.Prelude.{◌≡◌, ℕ, List, Some, map, length, nat_eq, not}
use Rattle.std.specs.List.{AllByRecursion, IsDistinct}
use Rattle.pb_lan.specs.Forests.{HasEnds}
use Rattle.pb_lan.specs.Numbering.{numbered}
use Rattle.pb_lan.specs.Plans.{IsNumber, IsSound}
use Rattle.pb_lan.specs.Shapes.{are_ends_forwarding}
use Rattle.pb_lan.specs.declared.plan.Plan.{Plan}
use Rattle.pb_lan.specs.declared.plan.End.{End}
use Rattle.pb_lan.specs.declared.plan.LinkPlan.{LinkPlan}
use Rattle.pb_rstp.specs.Ports.{Machine}
use Rattle.pb_rstp.specs.Profile.{plan_id}
use Rattle.pb_rstp.specs.Roles.{root_vector}
use Rattle.pb_rstp.specs.Tree.{AreMachines, IsConverged, NoneHeld, StandsAt, shape_of}
use Rattle.pb_rstp.specs.declared.port.Port.{Port}
use Rattle.pb_rstp.specs.declared.vector.Vector.{Vector}
use Rattle.pb_spanning_tree.specs.TreeOf.{Disabling, is_down, is_enabled, tree_of, vector_in, role_of, is_tree_link}
use Rattle.pb_spanning_tree.specs.Solutions.{AreSolution}
use Rattle.pb_spanning_tree.specs.Walks.{AreJoinedOver, IsLeastCost}

-- the port at an end of a link has the priority of the plan
abbrev pub HasPriority : List Machine → End → Type 0
HasPriority machines e = (m : Machine) (p : Port) → StandsAt machines e m p → p.priority ≡ e.priority

-- the port with this number of this bridge is at an end of a link
pub record IsAtLink (plan : Plan) (bridge port : ℕ) : Type 0 where
  pub number : ℕ
  pub link : LinkPlan
  pub near : End
  pub far : End
  pub at : numbered plan.links number ≡ Some link
  pub ends : HasEnds link near far
  pub from : near.bridge ≡ bridge
  pub through : near.port ≡ port

-- each port of each bridge is at an end of a link
abbrev pub AreAtLinks : Plan → List Machine → Type 0
AreAtLinks plan machines =
    (bridge : ℕ) (m : Machine) → numbered machines bridge ≡ Some m → AllByRecursion (λ p. IsAtLink plan bridge p.number) m.ports

-- these are the bridges of the plan, in its order, with its identifiers, which are distinct, and with the ports of its
-- links and their priorities, and no others
pub record ArePlanned (plan : Plan) (machines : List Machine) : Type 0 where
  pub machines_are : AreMachines plan machines
  pub ids : map (λ m. m.id) machines ≡ map plan_id plan.bridges
  pub distinct : IsDistinct nat_eq (map (λ m. m.id) machines)
  pub at_links : AreAtLinks plan machines
  pub priorities : AllByRecursion (λ link. HasPriority machines link.a × HasPriority machines link.b) plan.links

-- the port at an end of a link is disabled exactly if it is among the disabled ones
abbrev pub IsDisabledIn : List Machine → Disabling → End → Type 0
IsDisabledIn machines disabled e = (m : Machine) (p : Port) → StandsAt machines e m p → p.port_enabled ≡ not (is_down disabled e)

-- so at each end of each link
abbrev pub AreDisabled : Plan → List Machine → Disabling → Type 0
AreDisabled plan machines disabled =
    AllByRecursion (λ link. IsDisabledIn machines disabled link.a × IsDisabledIn machines disabled link.b) plan.links

-- the port at the near end of a link has the role of the spanning tree
abbrev pub HasTreeRole : Plan → List Machine → Disabling → End → End → Type 0
HasTreeRole plan machines disabled near far =
    (m : Machine) (p : Port) → StandsAt machines near m p → p.role ≡ role_of plan disabled near far

-- each bridge has the root priority vector of the spanning tree, each port its role, and the links whose two ends are
-- Forwarding are those of the spanning tree
pub record AreTree (plan : Plan) (machines : List Machine) (disabled : Disabling) : Type 0 where
  pub vectors : map (λ m. root_vector m.id m.ports) machines ≡ tree_of plan disabled
  pub roles : AllByRecursion (λ link. HasTreeRole plan machines disabled link.a link.b × HasTreeRole plan machines disabled link.b link.a) plan.links
  pub links : AllByRecursion (λ link. are_ends_forwarding (shape_of plan machines) link ≡ is_tree_link plan disabled link) plan.links

-- whatever came before, bridges that have converged form the spanning tree of the plan and the disabled ends, if no
-- root path cost is cut
abbrev pub OneTree : Type 0
OneTree =
    (plan : Plan) (machines : List Machine) (disabled : Disabling) → IsSound plan → ArePlanned plan machines
    → AreDisabled plan machines disabled → IsConverged plan machines → NoneHeld machines → AreTree plan machines disabled

-- vectors that none of a bridge's paths betters are those of the spanning tree
abbrev pub OneSolution : Type 0
OneSolution =
    (plan : Plan) (disabled : Disabling) (vectors : List Vector) → IsSound plan → AreSolution plan disabled vectors
    → vectors ≡ tree_of plan disabled

-- in such vectors each bridge has the least identifier of the bridges that enabled links lead to, and the least cost of
-- a walk there
abbrev pub LeastCost : Type 0
LeastCost =
    (plan : Plan) (disabled : Disabling) (vectors : List Vector) → IsSound plan → AreSolution plan disabled vectors
    → (bridge : ℕ) → IsNumber bridge (length plan.bridges)
    → IsLeastCost plan disabled bridge (vector_in vectors bridge)

-- if bridges have converged, links whose two ends are Forwarding join exactly the bridges that enabled links join
abbrev pub Spans : Type 0
Spans =
    (plan : Plan) (machines : List Machine) (disabled : Disabling) → IsSound plan → ArePlanned plan machines
    → AreDisabled plan machines disabled → IsConverged plan machines → NoneHeld machines → (here there : ℕ)
    → (AreJoinedOver plan (is_enabled disabled) here there
    → AreJoinedOver plan (are_ends_forwarding (shape_of plan machines)) here there)
    × (AreJoinedOver plan (are_ends_forwarding (shape_of plan machines)) here there
    → AreJoinedOver plan (is_enabled disabled) here there)
