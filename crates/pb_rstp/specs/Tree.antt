-- Networks that are settled or have converged, and the forest of their Forwarding ports.
use Rattle.std.specs.Prelude.{◌≡◌, ℕ, ◌+◌, ◌<◌, ◌≤◌, ◌⊎◌, Bool, true, false, List, [], ◌∷◌, Some, None, map, length, nat_eq, ◌&&◌, ◌||◌, not}
use Rattle.std.specs.declared.option.Option.{Option}
use Rattle.std.specs.List.{list_all, AllByRecursion}
use Rattle.std.specs.Cmp.Lexicographic.{pointwise}
use Rattle.std.specs.Option.{option_map, option_and_then, option_map_or}
use Rattle.pb_lan.specs.Numbering.{numbered, numbers_from}
use Rattle.pb_lan.specs.Ports.{Port as LocalPort, port_at, local_ports}
use Rattle.pb_lan.specs.Ports.Port.{Customer, Provider, Unused}
use Rattle.pb_lan.specs.Plans.{IsSound}
use Rattle.pb_lan.specs.Forests.{ShowsBy, HasEnds}
use Rattle.pb_lan.specs.Shapes.{is_active, are_ends_forwarding, is_forwarding}
use Rattle.pb_lan.specs.declared.plan.Plan.{Plan}
use Rattle.pb_lan.specs.declared.plan.End.{End}
use Rattle.pb_lan.specs.declared.plan.LinkPlan.{LinkPlan}
use Rattle.pb_lan.specs.declared.shape.PortState.{PortState}
use Rattle.pb_lan.specs.declared.shape.PortState.TheVariants.{Discarding, Forwarding}
use Rattle.pb_lan.specs.declared.shape.Rooted.{Rooted}
use Rattle.pb_lan.specs.declared.shape.Shape.{Shape}
use Rattle.pb_lan.specs.declared.step.Step.{Step}
use Rattle.pb_lan.specs.Rules.{Cause}
use Rattle.pb_rstp.specs.Changes.{IsSameBridge}
use Rattle.pb_rstp.specs.Profile.{after, machine_of}
use Rattle.pb_rstp.specs.Ports.{Machine, id_of, is_designated, is_discarding, is_root, is_root_or_designated, port_of}
use Rattle.pb_rstp.specs.declared.port.Info.{Info}
use Rattle.pb_rstp.specs.declared.port.Port.{Port}
use Rattle.pb_rstp.specs.Roles.{root_vector}
use Rattle.pb_rstp.specs.Messages.{known}
use Rattle.pb_rstp.specs.Vectors.{greatest_cost}
use Rattle.pb_rstp.specs.Laws.{IsInLine}

-- the root path cost of a bridge (clause 17.6)
abbrev pub root_cost : Machine → ℕ
root_cost m = (root_vector m.id m.ports).cost

-- the designated priority vector of a port without the receiving port (clause 17.6)
abbrev pub offered : Machine → Port → List ℕ
offered m p = (root_vector m.id m.ports).root ∷ root_cost m ∷ m.id ∷ id_of p ∷ []

-- this port of this bridge is at an end of a link
pub record StandsAt (machines : List Machine) (e : End) (m : Machine) (p : Port) : Type 0 where
  pub machine : numbered machines e.bridge ≡ Some m
  pub port : port_of m.ports e.port ≡ Some p

-- a port stores what the port at the other end of its link offers
abbrev pub StoresOffer : Port → Machine → Port → Type 0
StoresOffer q m p = (info : Info) × (q.info ≡ Some info) × (known info ≡ offered m p)

-- of the two ports of a link only the first is Designated, and the second stores what it offers
pub record LeadsTo (m : Machine) (p : Port) (q : Port) : Type 0 where
  pub here : is_designated p.role ≡ true
  pub there : is_designated q.role ≡ false
  pub stores : StoresOffer q m p

-- a link is settled: if both ends are enabled, one is Designated, and the other stores what that one offers
abbrev pub IsSettledLink : List Machine → LinkPlan → Type 0
IsSettledLink machines link =
    (m n : Machine) (p q : Port) → StandsAt machines link.a m p → StandsAt machines link.b n q
    → p.port_enabled ≡ true → q.port_enabled ≡ true → LeadsTo m p q ⊎ LeadsTo n q p

-- a network is settled: each port has its role and state, and each link is settled
pub record IsSettled (plan : Plan) (machines : List Machine) : Type 0 where
  pub in_line : AllByRecursion IsInLine machines
  pub links : AllByRecursion (IsSettledLink machines) plan.links

-- A link between these two ports has converged. A port that is enabled alone is Designated: what it heard has aged out.
-- If both are enabled and one is a Root port, both are Forwarding.
pub record IsConvergedBetween (p q : Port) : Type 0 where
  pub first_alone : p.port_enabled ≡ true → q.port_enabled ≡ false → is_designated p.role ≡ true
  pub second_alone : p.port_enabled ≡ false → q.port_enabled ≡ true → is_designated q.role ≡ true
  pub forwarding : p.port_enabled ≡ true → q.port_enabled ≡ true → (is_root p.role || is_root q.role) ≡ true
      → (is_forwarding p.state ≡ true) × (is_forwarding q.state ≡ true)

-- a link has converged
abbrev pub IsConvergedLink : List Machine → LinkPlan → Type 0
IsConvergedLink machines link =
    (m n : Machine) (p q : Port) → StandsAt machines link.a m p → StandsAt machines link.b n q → IsConvergedBetween p q

-- a network has converged: it is settled, and each link has converged
pub record IsConverged (plan : Plan) (machines : List Machine) : Type 0 where
  pub settled : IsSettled plan machines
  pub links : AllByRecursion (IsConvergedLink machines) plan.links

-- The same as tests, which the code computes.

-- a port that is neither Root nor Designated is Discarding, as a test
abbrev pub is_quiet : Port → Bool
is_quiet p = is_root_or_designated p.role || is_discarding p.state

-- the stored information is this offer, as a test
abbrev pub stores_test : Option Info → List ℕ → Bool
stores_test None offer = false
stores_test (Some info) offer = pointwise nat_eq (known info) offer

-- of the two ports of a link only the first is Designated, and the second stores its offer, as a test
abbrev pub leads_test : Machine → Port → Port → Bool
leads_test m p q = is_designated p.role && not (is_designated q.role) && stores_test q.info (offered m p)

-- a bridge and one of its ports
pub record Place : Type 0 where
  pub machine : Machine
  pub port : Port

-- the port with this number of a bridge, if it has one
abbrev pub place_in : ℕ → Machine → Option Place
place_in port m = option_map (λ p. let place : Place = record { machine = m; port = p } in place) (port_of m.ports port)

-- the bridge and the port at an end of a link, if both are there
abbrev pub place_at : List Machine → End → Option Place
place_at machines e = option_and_then (place_in e.port) (numbered machines e.bridge)

-- a link between these two ports is settled, as a test
abbrev pub is_settled_between : Option Place → Option Place → Bool
is_settled_between (Some a) (Some b) =
    not (a.port.port_enabled && b.port.port_enabled)
    || leads_test a.machine a.port b.port || leads_test b.machine b.port a.port
is_settled_between None b = true
is_settled_between (Some a) None = true

-- each link of the plan is settled, as a test
abbrev pub is_settled : Plan → List Machine → Bool
is_settled plan machines = list_all (λ link. is_settled_between (place_at machines link.a) (place_at machines link.b)) plan.links

-- two enabled ports of a link have converged, as a test: if one is a Root port, both are Forwarding
abbrev pub are_forwarding : Port → Port → Bool
are_forwarding p q =
    not (is_root p.role || is_root q.role) || (is_forwarding p.state && is_forwarding q.state)

-- a link has converged, as a test: whether its ends are enabled comes first
abbrev pub is_converged_by : Bool → Bool → Port → Port → Bool
is_converged_by true true p q = are_forwarding p q
is_converged_by true false p q = is_designated p.role
is_converged_by false true p q = is_designated q.role
is_converged_by false false p q = true

-- a link between these two ports has converged, as a test
abbrev pub is_converged_between : Option Place → Option Place → Bool
is_converged_between (Some a) (Some b) = is_converged_by a.port.port_enabled b.port.port_enabled a.port b.port
is_converged_between None b = true
is_converged_between (Some a) None = true

-- each link of the plan has converged, as a test
abbrev pub are_converged : Plan → List Machine → Bool
are_converged plan machines =
    list_all (λ link. is_converged_between (place_at machines link.a) (place_at machines link.b)) plan.links

-- the test passes if and only if each link is settled
abbrev pub TestTells : Type 0
TestTells =
    (plan : Plan) (machines : List Machine)
    → (is_settled plan machines ≡ true → AllByRecursion (IsSettledLink machines) plan.links)
    × (AllByRecursion (IsSettledLink machines) plan.links → is_settled plan machines ≡ true)

-- The forest.

-- the ports of a bridge have different numbers from 1 to 255
pub record HasPorts (m : Machine) : Type 0 where
  pub distinct : AllByRecursion (λ p. port_of m.ports p.number ≡ Some p) m.ports
  pub small : AllByRecursion (λ p. (1 ≤ p.number) × (p.number < 256)) m.ports

-- the bridge at an end of a link has this port, with the path cost of the plan
abbrev pub HasPortAt : List Machine → End → Type 0
HasPortAt machines e = (m : Machine) × (p : Port) × StandsAt machines e m p × (p.cost ≡ e.cost)

-- these are the bridges of the plan, in its order and with its ports
pub record AreMachines (plan : Plan) (machines : List Machine) : Type 0 where
  pub count : length machines ≡ length plan.bridges
  pub ports : AllByRecursion HasPorts machines
  pub ends : AllByRecursion (λ link. HasPortAt machines link.a × HasPortAt machines link.b) plan.links

-- no call changes a bridge's identifier, or a port's number, path cost or priority
abbrev pub CallsKeepBridges : Type 0
CallsKeepBridges = (machine : Machine) (cause : Cause) → IsSameBridge machine (after machine cause).machine

-- the bridges of the plan after the steps of each
abbrev pub machines_of : Plan → (ℕ → List Step) → List Machine
machines_of plan past = map (λ bridge. machine_of plan bridge (past bridge)) (numbers_from 1 plan.bridges)

-- after any steps the bridges are those of the plan
abbrev pub PlannedAreMachines : Type 0
PlannedAreMachines = (plan : Plan) (past : ℕ → List Step) → IsSound plan → AreMachines plan (machines_of plan past)

-- the root path cost through a Root port is not cut at the greatest cost
abbrev pub IsNotHeld : Port → Type 0
IsNotHeld p = is_root p.role ≡ true → (info : Info) → p.info ≡ Some info → info.cost + p.cost ≤ greatest_cost

-- no root path cost of a Root port is cut at the greatest cost
abbrev pub NoneHeld : List Machine → Type 0
NoneHeld machines = AllByRecursion (λ m. AllByRecursion IsNotHeld m.ports) machines

-- the state of a local port: a customer port forwards, and an unused one discards
abbrev pub state_at : Machine → LocalPort → ℕ → PortState
state_at m (Customer c) port = Forwarding
state_at m (Provider e) port = option_map_or (λ p. p.state) (port_of m.ports port) Discarding
state_at m Unused port = Discarding

-- the states of all local ports of a bridge
abbrev pub states_of : Plan → List Machine → ℕ → List PortState
states_of plan machines bridge =
    option_map_or (λ m. map (λ port. state_at m (port_at plan bridge port) port) local_ports) (numbered machines bridge) []

-- the states of all ports of a network
abbrev pub shape_of : Plan → List Machine → Shape
shape_of plan machines = record { states = map (states_of plan machines) (numbers_from 1 machines) }

-- a link leads from a Designated port to a Root port, and the bridge below has the greater root path cost
pub record Rises (machines : List Machine) (upper lower : End) : Type 0 where
  pub above : Machine
  pub below : Machine
  pub designated : Port
  pub root : Port
  pub stands_above : StandsAt machines upper above designated
  pub stands_below : StandsAt machines lower below root
  pub is_designated : is_designated designated.role ≡ true
  pub is_root : is_root root.role ≡ true
  pub cost : root_cost above < root_cost below

-- each bridge's link to its parent leads from its Root port to a Designated port of a bridge with less root path cost
abbrev pub LeadsBehindRoots : Plan → List Machine → Rooted → Type 0
LeadsBehindRoots plan machines rooted =
    (bridge number : ℕ) → numbered rooted.up bridge ≡ Some (Some number)
    → (link : LinkPlan) × (near : End) × (far : End) × (numbered plan.links number ≡ Some link) × HasEnds link near far
    × (near.bridge ≡ bridge) × Rises machines far near

-- the links that pass are a forest, and each bridge's parent is the bridge at the other end of its Root port's link
abbrev pub IsForestBehindRoots : Plan → List Machine → (LinkPlan → Bool) → Type 0
IsForestBehindRoots plan machines passes = (rooted : Rooted) × ShowsBy plan passes rooted × LeadsBehindRoots plan machines rooted

-- both ends of a link are Forwarding
abbrev pub AreBothForwarding : List Machine → LinkPlan → Type 0
AreBothForwarding machines link =
    (m : Machine) × (n : Machine) × (p : Port) × (q : Port) × StandsAt machines link.a m p × StandsAt machines link.b n q
    × (is_forwarding p.state ≡ true) × (is_forwarding q.state ≡ true)

-- root path cost rises along every link with both ends Forwarding
abbrev pub CostRisesAlong : Plan → List Machine → Type 0
CostRisesAlong plan machines =
    (number : ℕ) (link : LinkPlan) → numbered plan.links number ≡ Some link → AreBothForwarding machines link
    → Rises machines link.a link.b ⊎ Rises machines link.b link.a

-- the links with both ends Forwarding are one forest, so are those of each service, and root path cost rises along
-- them
pub record AreForests (plan : Plan) (machines : List Machine) : Type 0 where
  pub whole : IsForestBehindRoots plan machines (are_ends_forwarding (shape_of plan machines))
  pub services : (vid : ℕ) → IsForestBehindRoots plan machines (is_active plan (shape_of plan machines) vid)
  pub rises : CostRisesAlong plan machines

-- in a settled network in which no root path cost is cut, the Forwarding ports form forests
abbrev pub SettledIsForest : Type 0
SettledIsForest =
    (plan : Plan) (machines : List Machine) → IsSound plan → AreMachines plan machines → IsSettled plan machines
    → NoneHeld machines → AreForests plan machines

-- in such a network root path cost rises along every link with both ends Forwarding
abbrev pub CostRises : Type 0
CostRises =
    (plan : Plan) (machines : List Machine) → IsSound plan → AreMachines plan machines → IsSettled plan machines → NoneHeld machines
    → CostRisesAlong plan machines
