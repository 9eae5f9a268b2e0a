-- What holds of the bridges of a plan that have converged.
use Rattle.std.proofs.Common.{◌≡◌, ◌⊎◌, inl, inr, ℕ, ◌≤◌, List, Some, refl, sym, ap, ap₂, ◌∙◌, subst, true}
use Rattle.std.proofs.Common.{Bool, false, [], ◌∷◌, map, not, ◌||◌, ◌&&◌, ◌==◌, unwrap_or, arith, eq-eqb}
use Rattle.std.specs.List.{AllByRecursion, IsDistinct, flat_map}
use Rattle.std.specs.Option.{option_map}
use Rattle.pb_frame.proofs.Lists.{IsDistinct-place, IsDistinct-front, true-false}
use Rattle.pb_lan.specs.Forests.{HasEnds}
use Rattle.pb_lan.specs.Numbering.{numbered}
use Rattle.pb_lan.specs.Plans.{IsSound, is_same_port}
use Rattle.pb_lan.specs.Ports.{all_ends, ends_of}
use Rattle.pb_lan.specs.Shapes.{is_forwarding}
use Rattle.pb_lan.specs.declared.plan.Plan.{Plan}
use Rattle.pb_lan.specs.declared.plan.End.{End}
use Rattle.pb_lan.specs.declared.plan.LinkPlan.{LinkPlan}
use Rattle.pb_lan.proofs.Numbers.{numbered-All, numbered-place}
use Rattle.pb_lan.proofs.PortsInPlans.{IsEndOf, sound-end}
use Rattle.pb_rstp.specs.Ports.{Machine, id_of, is_designated, is_root}
use Rattle.pb_rstp.specs.Profile.{id_in, plan_id}
use Rattle.pb_rstp.specs.Roles.{root_vector}
use Rattle.pb_rstp.specs.Tree.{IsConverged, IsConvergedLink, IsSettledLink, NoneHeld, LeadsTo, HasPortAt}
use Rattle.pb_rstp.specs.Vectors.{own_vector, port_id}
use Rattle.pb_rstp.specs.declared.port.Port.{Port}
use Rattle.pb_rstp.specs.declared.vector.Vector.{Vector}
use Rattle.pb_rstp.proofs.NetworkLaws.{numbered-map}
use Rattle.pb_rstp.proofs.SettledLaws.{Network, Stands, stands}
use Rattle.pb_spanning_tree.specs.TreeOf.{Disabling, is_down, end_id, vector_in}
use Rattle.pb_spanning_tree.specs.Laws.{ArePlanned, AreDisabled, HasPriority, IsDisabledIn}

-- the bridges of a sound plan have converged with these ends disabled, and no root path cost is held
pub record Converged (plan : Plan) (machines : List Machine) (disabled : Disabling) : Type 0 where
  pub sound : IsSound plan
  pub planned : ArePlanned plan machines
  pub down : AreDisabled plan machines disabled
  pub converged : IsConverged plan machines
  pub none_held : NoneHeld machines

-- their network is settled
pub network : (plan : Plan) (machines : List Machine) (disabled : Disabling) → Converged plan machines disabled
    → Network plan machines
network plan machines disabled c = record {
  sound = c.sound;
  are = c.planned.machines_are;
  settled = c.converged.settled;
  none_held = c.none_held;
}

-- their root priority vectors
abbrev pub vectors_of : List Machine → List Vector
vectors_of machines = map (λ m. root_vector m.id m.ports) machines

-- the vector with a bridge's number is the bridge's
pub vector_of : (machines : List Machine) (b : ℕ) (m : Machine) → numbered machines b ≡ Some m
    → vector_in (vectors_of machines) b ≡ root_vector m.id m.ports
vector_of machines b m at =
    ap (λ o. unwrap_or o (own_vector 0)) (numbered-map (λ (n : Machine). root_vector n.id n.ports) machines b
    ∙ ap (option_map (λ (n : Machine). root_vector n.id n.ports)) at)

-- the identifier with a bridge's number is the bridge's
pub id_is : (plan : Plan) (machines : List Machine) → ArePlanned plan machines → (b : ℕ) (m : Machine)
    → numbered machines b ≡ Some m → id_in plan b ≡ m.id
id_is plan machines planned b m at =
    ap (λ o. unwrap_or o 0) (sym (numbered-map plan_id plan.bridges b)
    ∙ ap (λ ids. numbered ids b) (sym planned.ids)
    ∙ numbered-map (λ (n : Machine). n.id) machines b
    ∙ ap (option_map (λ (n : Machine). n.id)) at)

-- bridges with one identifier are one bridge
pub one_bridge : (plan : Plan) (machines : List Machine) → ArePlanned plan machines → (b c : ℕ) (m n : Machine)
    → numbered machines b ≡ Some m → numbered machines c ≡ Some n → m.id ≡ n.id → b ≡ c
one_bridge plan machines planned b c m n at there same =
    let i = numbered-place machines b m at in
    let j = numbered-place machines c n there in
    let place : i.0 ≡ j.0 = IsDistinct-place (λ (k : Machine). k.id) machines i.0 j.0 m n planned.distinct i.2 j.2
    same in
    omega (arith, i.1, j.1, place)

-- what holds of the port at an end of a link
pub record AtEnd (plan : Plan) (machines : List Machine) (disabled : Disabling) (e : End) (m : Machine) (p : Port) : Type 0 where
  pub stands : Stands plan machines e m p
  pub id : id_of p ≡ end_id e
  pub cost : p.cost ≡ e.cost
  pub above : 1 ≤ e.cost
  pub enabled : p.port_enabled ≡ not (is_down disabled e)
  pub bridge : id_in plan e.bridge ≡ m.id
  pub vector : vector_in (vectors_of machines) e.bridge ≡ root_vector m.id m.ports

-- a bridge and its port at an end of a link
pub record HasEnd (plan : Plan) (machines : List Machine) (disabled : Disabling) (e : End) : Type 0 where
  pub machine : Machine
  pub port : Port
  pub is : AtEnd plan machines disabled e machine port

-- each end of a link has them
pub has_end : (plan : Plan) (machines : List Machine) (disabled : Disabling) → Converged plan machines disabled
    → (k : ℕ) (link : LinkPlan) (e : End) → numbered plan.links k ≡ Some link → IsEndOf link e
    → HasPortAt machines e → HasPriority machines e → IsDisabledIn machines disabled e
    → HasEnd plan machines disabled e
has_end plan machines disabled c k link e at which (m, p, here, cost) priority down =
    let s = stands plan machines (network plan machines disabled c) e m p here in
    record {
      machine = m;
      port = p;
      is = record {
        stands = s;
        id = ap₂ (λ x y. port_id x y) (priority m p here) s.number;
        cost = cost;
        above = (sound-end plan c.sound k link e at which).cost.0;
        enabled = down m p here;
        bridge = id_is plan machines c.planned e.bridge m here.machine;
        vector = vector_of machines e.bridge m here.machine;
      };
    }

-- no link has both ends at one port
ends_apart : (links : List LinkPlan) → IsDistinct is_same_port (map (λ e. (e.bridge, e.port)) (flat_map ends_of links))
    → AllByRecursion (λ l. is_same_port (l.a.bridge, l.a.port) (l.b.bridge, l.b.port) ≡ false) links
unfolding IsDistinct
ends_apart [] d = tt
ends_apart (l ∷ ls) d = (d.0.0, ends_apart ls d.1.1)

-- what holds of the two ports of a link
pub record Linked (plan : Plan) (machines : List Machine) (disabled : Disabling) (near far : End) : Type 0 where
  pub here : HasEnd plan machines disabled near
  pub there : HasEnd plan machines disabled far
  pub settled : here.port.port_enabled ≡ true → there.port.port_enabled ≡ true
      → LeadsTo here.machine here.port there.port ⊎ LeadsTo there.machine there.port here.port
  pub alone : here.port.port_enabled ≡ true → there.port.port_enabled ≡ false
      → is_designated here.port.role ≡ true
  pub far_alone : here.port.port_enabled ≡ false → there.port.port_enabled ≡ true
      → is_designated there.port.role ≡ true
  pub forwarding : here.port.port_enabled ≡ true → there.port.port_enabled ≡ true
      → (is_root here.port.role || is_root there.port.role) ≡ true
      → (is_forwarding here.port.state ≡ true) × (is_forwarding there.port.state ≡ true)
  pub apart : near.bridge ≡ far.bridge → near.port ≡ far.port → ⊥

-- the same from the other end
pub turned : (plan : Plan) (machines : List Machine) (disabled : Disabling) (near far : End)
    → Linked plan machines disabled near far → Linked plan machines disabled far near
turned plan machines disabled near far l = record {
  here = l.there;
  there = l.here;
  settled = λ p q. elim (l.settled q p) [ inl x ↦ inr x | inr y ↦ inl y ];
  alone = λ p q. l.far_alone q p;
  far_alone = λ p q. l.alone q p;
  forwarding = λ p q r. let f = l.forwarding q p (or_turned (is_root l.there.port.role) (is_root l.here.port.role) r)
      in (f.1, f.0);
  apart = λ b p. l.apart (sym b) (sym p);
}
  where
    or_turned : (a b : Bool) → (a || b) ≡ true → (b || a) ≡ true
    or_turned true true e = e
    or_turned true false e = refl
    or_turned false true e = refl
    or_turned false false e = e

-- each link has such ports
pub linked : (plan : Plan) (machines : List Machine) (disabled : Disabling) → Converged plan machines disabled
    → (k : ℕ) (link : LinkPlan) → numbered plan.links k ≡ Some link → (near far : End) → HasEnds link near far
    → Linked plan machines disabled near far
linked plan machines disabled c k link at near far ends = by_order ends
  where
    first : HasEnd plan machines disabled link.a
    first = has_end plan machines disabled c k link link.a at (inl refl)
        (numbered-All (λ l. HasPortAt machines l.a × HasPortAt machines l.b) plan.links k link at
        c.planned.machines_are.ends).0
        (numbered-All (λ l. HasPriority machines l.a × HasPriority machines l.b) plan.links k link at
        c.planned.priorities).0
        (numbered-All (λ l. IsDisabledIn machines disabled l.a × IsDisabledIn machines disabled l.b) plan.links k link
        at c.down).0

    second : HasEnd plan machines disabled link.b
    second = has_end plan machines disabled c k link link.b at (inr refl)
        (numbered-All (λ l. HasPortAt machines l.a × HasPortAt machines l.b) plan.links k link at
        c.planned.machines_are.ends).1
        (numbered-All (λ l. HasPriority machines l.a × HasPriority machines l.b) plan.links k link at
        c.planned.priorities).1
        (numbered-All (λ l. IsDisabledIn machines disabled l.a × IsDisabledIn machines disabled l.b) plan.links k link
        at c.down).1

    straight : Linked plan machines disabled link.a link.b
    straight =
        let s = numbered-All (IsSettledLink machines) plan.links k link at c.converged.settled.links first.machine
        second.machine first.port second.port first.is.stands.at second.is.stands.at in
        let v = numbered-All (IsConvergedLink machines) plan.links k link at c.converged.links first.machine
        second.machine first.port second.port first.is.stands.at second.is.stands.at in
        let distinct : IsDistinct is_same_port (map (λ e. (e.bridge, e.port)) (flat_map ends_of plan.links)) =
        IsDistinct-front is_same_port (map (λ e. (e.bridge, e.port)) (all_ends plan))
        (map (λ d. (d.bridge, d.port)) plan.customers) c.sound.ports in
        let other : (link.a.bridge == link.b.bridge && link.a.port == link.b.port) ≡ false =
        numbered-All (λ l. is_same_port (l.a.bridge, l.a.port) (l.b.bridge, l.b.port) ≡ false) plan.links k link at
        (ends_apart plan.links distinct) in
        record {
          here = first;
          there = second;
          settled = s;
          alone = v.first_alone;
          far_alone = v.second_alone;
          forwarding = v.forwarding;
          apart = λ b p. true-false (link.a.bridge == link.b.bridge && link.a.port == link.b.port)
              (ap₂ (λ x y. x && y) (eq-eqb link.a.bridge link.b.bridge b) (eq-eqb link.a.port link.b.port p)) other;
        }

    moved : (a b : End) → a ≡ near → b ≡ far → Linked plan machines disabled a b
        → Linked plan machines disabled near far
    moved a b e f l =
        let P : End → Type 0 = λ x. Linked plan machines disabled x far in
        let Q : End → Type 0 = λ x. Linked plan machines disabled a x in
        subst P e (subst Q f l)

    by_order : HasEnds link near far → Linked plan machines disabled near far
    by_order (inl h) = moved link.a link.b h.0 h.1 straight
    by_order (inr h) = moved link.b link.a h.0 h.1 (turned plan machines disabled link.a link.b straight)
