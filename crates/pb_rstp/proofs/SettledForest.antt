-- In a network that has converged the Forwarding ports form a forest.
use Rattle.std.proofs.Common.{◌≡◌, ◌⊎◌, ℕ, zero, suc, ◌+◌, ◌≤◌, ◌<◌, List, [], ◌∷◌, Some, map, slice_get, unwrap_or}
use Rattle.std.proofs.Common.{refl, sym, ap, ap₂, ◌∙◌, subst, Bool, true, false, ◌&&◌, inl, inr, arith}
use Rattle.std.specs.Option.{option_and_then, option_map_or}
use Rattle.std.specs.List.{IsDistinct, flat_map}
use Rattle.std.proofs.lemmas.Bool.{eq-eqb}
use Rattle.pb_lan.specs.Numbering.{numbered}
use Rattle.pb_lan.specs.Plans.{IsSound, is_same_port}
use Rattle.pb_lan.specs.Ports.{all_ends, ends_of, local_ports, port_at, serves}
use Rattle.pb_lan.specs.Shapes.{state_in, is_open, is_active, is_end_forwarding, are_ends_forwarding}
use Rattle.pb_lan.specs.Shapes.{is_forwarding as is_open_state, is_forwarding}
use Rattle.pb_lan.specs.declared.plan.Plan.{Plan}
use Rattle.pb_lan.specs.declared.plan.End.{End}
use Rattle.pb_lan.specs.declared.plan.LinkPlan.{LinkPlan}
use Rattle.pb_lan.specs.declared.shape.PortState.{PortState}
use Rattle.pb_lan.specs.declared.shape.PortState.TheVariants.{Discarding, Forwarding}
use Rattle.pb_frame.proofs.Lists.{Some-injective, and-left, and-right, same_place, IsDistinct-front}
use Rattle.pb_lan.proofs.Numbers.{numbered-All}
use Rattle.pb_lan.proofs.PortsInPlans.{IsEndOf, port_at-end, sound-end}
use Rattle.pb_rstp.specs.Ports.{Machine, id_of, port_of, is_root, is_designated}
use Rattle.pb_rstp.specs.declared.port.Port.{Port}
use Rattle.pb_rstp.specs.Roles.{root_vector}
use Rattle.pb_rstp.specs.Tree.{root_cost, StandsAt, HasPortAt, Rises, AreBothForwarding, SettledIsForest}
use Rattle.pb_rstp.specs.Tree.{LeadsBehindRoots, IsForestBehindRoots, state_at, states_of, shape_of}
use Rattle.pb_rstp.specs.declared.role.Role.{Role}
use Rattle.pb_rstp.specs.declared.role.Role.TheVariants.{Designated}
use Rattle.pb_rstp.proofs.ForestLaws.{lower, upper, Falls, numbered-at, numbered-only, is_up, up_of, rooted_by}
use Rattle.pb_rstp.proofs.ForestLaws.{falling-shows, ends_either}
use Rattle.pb_rstp.proofs.SettledLaws.{Network, stands, rises, root_way, root_is, same_number, cost_rises}

-- The state of a port in the shape of the network.

-- the entry of a list by local ports, by its number
pub local_at : {Y : Type 0} (f : ℕ → Y) (k : ℕ) → 1 ≤ k → k ≤ 16 → numbered (map f local_ports) k ≡ Some (f k)
local_at f k above below = numbered-at f (sixteen) k above (omega (arith, below))
  where
    sixteen : List ℕ
    sixteen = local_ports

-- the shape has the state of the port at a link end
pub shape_state : (plan : Plan) (machines : List Machine) → Network plan machines → (k : ℕ) (link : LinkPlan) (e : End)
    → numbered plan.links k ≡ Some link
    → IsEndOf link e → (m : Machine) (p : Port) → StandsAt machines e m p
    → state_in (shape_of plan machines) e.bridge e.port ≡ p.state
shape_state plan machines net k link e at which m p s =
    let sound_end = sound-end plan net.sound k link e at which in
    let count = net.are.count in
    let bridge = numbered-at (states_of plan machines) machines e.bridge sound_end.bridge.0
    (omega (arith, sound_end.bridge.1, count)) in
    let machine : states_of plan machines e.bridge ≡ map (λ port. state_at m (port_at plan e.bridge port) port)
    local_ports =
    ap (λ o. option_map_or (λ (n : Machine). map (λ port. state_at n (port_at plan e.bridge port) port) local_ports) o
    []) s.machine in
    let port = local_at (λ port. state_at m (port_at plan e.bridge port) port) e.port sound_end.port.0
    sound_end.port.1 in
    let state : state_at m (port_at plan e.bridge e.port) e.port ≡ p.state =
    ap (λ l. state_at m l e.port) (port_at-end plan net.sound k link e at which)
    ∙ ap (λ o. option_map_or (λ (q : Port). q.state) o Discarding) s.port in
    ap (λ o. unwrap_or (numbered (unwrap_or o []) e.port) Discarding) bridge
    ∙ ap (λ l. unwrap_or (numbered l e.port) Discarding) machine
    ∙ ap (λ o. unwrap_or o Discarding) port
    ∙ state

-- the two tests for Forwarding agree
pub same_test : (s : PortState) → is_open_state s ≡ true → is_forwarding s ≡ true
same_test Forwarding e = refl
same_test _ e = cc

-- a link passes only if both its ends are Forwarding
abbrev pub Forwards : Plan → List Machine → (LinkPlan → Bool) → Type 0
Forwards plan machines passes = (link : LinkPlan) → passes link ≡ true
    → are_ends_forwarding (shape_of plan machines) link ≡ true

-- an active link of a service has both ends Forwarding
pub active_forwards : (plan : Plan) (machines : List Machine) (vid : ℕ)
    → Forwards plan machines (is_active plan (shape_of plan machines) vid)
active_forwards plan machines vid link active =
    let shape = shape_of plan machines in
    let open_a = and-left (is_open plan shape vid link.a) (is_open plan shape vid link.b) active in
    let open_b = and-right (is_open plan shape vid link.a) (is_open plan shape vid link.b) active in
    let forwarding_a = and-left (is_end_forwarding shape link.a) (serves plan vid link.a) open_a in
    let forwarding_b = and-left (is_end_forwarding shape link.b) (serves plan vid link.b) open_b in
    ap₂ (λ x y. x && y) forwarding_a forwarding_b

-- such a link has ports that are Forwarding at both ends
pub both_forwarding : (plan : Plan) (machines : List Machine) → Network plan machines → (k : ℕ) (link : LinkPlan)
    → numbered plan.links k ≡ Some link
    → are_ends_forwarding (shape_of plan machines) link ≡ true → AreBothForwarding machines link
both_forwarding plan machines net k link at both =
    let ends = numbered-All (λ l. HasPortAt machines l.a × HasPortAt machines l.b) plan.links k link at net.are.ends in
    let open_a = and-left (is_end_forwarding (shape_of plan machines) link.a)
    (is_end_forwarding (shape_of plan machines) link.b) both in
    let open_b = and-right (is_end_forwarding (shape_of plan machines) link.a)
    (is_end_forwarding (shape_of plan machines) link.b) both in
    let a = shape_state plan machines net k link link.a at (inl refl) ends.0.0 ends.0.1 ends.0.2 in
    let b = shape_state plan machines net k link link.b at (inr refl) ends.1.0 ends.1.1 ends.1.2 in (
      ends.0.0,
      ends.1.0,
      ends.0.1,
      ends.1.1,
      ends.0.2,
      ends.1.2,
      same_test ends.0.1.state (ap is_open_state (sym a) ∙ open_a),
      same_test ends.1.1.state (ap is_open_state (sym b) ∙ open_b),
    )

-- The lower end of a link is the Root port's.

-- the port at a link end is a Root port
abbrev pub is_root_at : List Machine → End → Bool
is_root_at machines e = option_map_or (λ (p : Port). is_root p.role)
    (option_and_then (λ (m : Machine). port_of m.ports e.port) (numbered machines e.bridge)) false

-- that test reads the role of the port at the link end
pub root_test : (machines : List Machine) (e : End) (m : Machine) (p : Port) → StandsAt machines e m p
    → is_root_at machines e ≡ is_root p.role
root_test machines e m p s =
    ap (λ o. option_map_or (λ (q : Port). is_root q.role)
    (option_and_then (λ (n : Machine). port_of n.ports e.port) o) false) s.machine
    ∙ ap (λ o. option_map_or (λ (q : Port). is_root q.role) o false) s.port

-- the first end of a link is its lower one: it has the Root port
abbrev pub low_of : List Machine → LinkPlan → Bool
low_of machines link = is_root_at machines link.a

-- the root path cost of the bridge with this number
abbrev pub cost_of : List Machine → ℕ → ℕ
cost_of machines b = option_map_or root_cost (numbered machines b) 0

-- a Designated port is no Root port
pub not_root : (r : Role) → is_designated r ≡ true → is_root r ≡ false
not_root Designated e = refl
not_root _ e = cc

-- root path cost rises from the upper to the lower end of a link
pub record Oriented (machines : List Machine) (link : LinkPlan) (t : Bool) : Type 0 where
  rises : Rises machines (upper t link) (lower t link)

-- a link with both ends Forwarding leads from a Designated port to a Root port
pub oriented : (plan : Plan) (machines : List Machine) → Network plan machines → (k : ℕ) (link : LinkPlan)
    → numbered plan.links k ≡ Some link
    → are_ends_forwarding (shape_of plan machines) link ≡ true → Oriented machines link (low_of machines link)
oriented plan machines net k link at both =
    by_case (rises plan machines net k link at (both_forwarding plan machines net k link at both))
  where
    by_case : Rises machines link.a link.b ⊎ Rises machines link.b link.a
        → Oriented machines link (low_of machines link)
    by_case (inl r) =
        let low : low_of machines link ≡ false = root_test machines link.a r.above r.designated r.stands_above
        ∙ not_root r.designated.role r.is_designated in
        let P : Bool → Type 0 = λ t. Oriented machines link t in
        subst P (sym low) (record { rises = r })
    by_case (inr r) =
        let low : low_of machines link ≡ true = root_test machines link.a r.below r.root r.stands_below ∙ r.is_root in
        let P : Bool → Type 0 = λ t. Oriented machines link t in
        subst P (sym low) (record { rises = r })

-- No port has two link ends.

-- twice a number
pub double : ℕ → ℕ
double zero = zero
double (suc n) = suc (suc (double n))

-- the same as a sum
pub double-is : (n : ℕ) → double n ≡ n + n
unfolding double
double-is zero = refl
double-is (suc n) = let h = double-is n in omega (arith, h)

-- the first end of a link, in the list of all ends
pub place_a : (links : List LinkPlan) (i : ℕ) (l : LinkPlan) → slice_get links i ≡ Some l
    → slice_get (flat_map ends_of links) (double i) ≡ Some l.a
unfolding double
place_a [] i l e = cc
place_a (m ∷ ls) zero l e = ap (λ (x : LinkPlan). Some x.a) (Some-injective e)
place_a (m ∷ ls) (suc i) l e = place_a ls i l e

-- the second end of a link, in the list of all ends
pub place_b : (links : List LinkPlan) (i : ℕ) (l : LinkPlan) → slice_get links i ≡ Some l
    → slice_get (flat_map ends_of links) (suc (double i)) ≡ Some l.b
unfolding double
place_b [] i l e = cc
place_b (m ∷ ls) zero l e = ap (λ (x : LinkPlan). Some x.b) (Some-injective e)
place_b (m ∷ ls) (suc i) l e = place_b ls i l e

-- the index of a link end in the list of all ends
pub record Placed (plan : Plan) (i : ℕ) (e : End) : Type 0 where
  place : ℕ
  least : i + i ≤ place
  most : place ≤ i + i + 1
  is : slice_get (all_ends plan) place ≡ Some e

-- a lower end is there
pub placed : (plan : Plan) (i : ℕ) (l : LinkPlan) (t : Bool) → slice_get plan.links i ≡ Some l → Placed plan i (lower t l)
placed plan i l true e = let d =
    double-is i in record {
      place = double i;
      least = omega (arith, d);
      most = omega (arith, d);
      is = place_a plan.links i l e;
    }
placed plan i l false e = let d =
    double-is i in record {
      place = suc (double i);
      least = omega (arith, d);
      most = omega (arith, d);
      is = place_b plan.links i l e;
    }

-- two links with ends at one port are one link
pub one_link : (plan : Plan) → IsSound plan → (i j : ℕ) (e f : End) → Placed plan i e → Placed plan j f
    → e.bridge ≡ f.bridge → e.port ≡ f.port → i ≡ j
one_link plan sound i j e f a b bridge port =
    let distinct : IsDistinct is_same_port (map (λ x. (x.bridge, x.port)) (all_ends plan)) =
    IsDistinct-front is_same_port (map (λ x. (x.bridge, x.port)) (all_ends plan))
    (map (λ d. (d.bridge, d.port)) plan.customers) sound.ports in
    let same = same_place is_same_port (λ x. (x.bridge, x.port)) (all_ends plan) a.place b.place e f distinct a.is b.is
    (ap₂ (λ x y. x && y) (eq-eqb e.bridge f.bridge bridge) (eq-eqb e.port f.port port))
    (ap₂ (λ x y. x && y) (eq-eqb f.bridge e.bridge (sym bridge)) (eq-eqb f.port e.port (sym port))) in
    let al = a.least in let am = a.most in let bl = b.least in let bm = b.most in
    omega (arith, same, al, am, bl, bm)

-- the lower end is an end of the link
pub lower_end : (t : Bool) (l : LinkPlan) → IsEndOf l (lower t l)
lower_end true l = inl refl
lower_end false l = inr refl

-- two lower ends at one bridge are one port, since a bridge has one Root port
pub one_port : (plan : Plan) (machines : List Machine) → Network plan machines → (u e v f : End) → Rises machines u e
    → Rises machines v f → e.bridge ≡ f.bridge → e.port ≡ f.port
one_port plan machines net u e v f r s bridge =
    let machine : r.below ≡ s.below =
    Some-injective (sym r.stands_below.machine ∙ ap (λ b. numbered machines b) bridge ∙ s.stands_below.machine) in
    let re = stands plan machines net e r.below r.root r.stands_below in
    let sf = stands plan machines net f s.below s.root s.stands_below in
    let way = root_way r.below re.line re.has r.root re.port (root_is r.root.role r.is_root) in
    let way' = root_way s.below sf.line sf.has s.root sf.port (root_is s.root.role s.is_root) in
    let id : (root_vector r.below.id r.below.ports).receiving ≡ id_of r.root = ap (λ z. z.receiving) way.4 in
    let id' : (root_vector s.below.id s.below.ports).receiving ≡ id_of s.root = ap (λ z. z.receiving) way'.4 in
    let ids : id_of r.root ≡ id_of s.root = sym id ∙ ap (λ (m : Machine). (root_vector m.id m.ports).receiving)
    machine ∙ id' in
    let number : r.root.number ≡ s.root.number = same_number r.root.priority s.root.priority r.root.number
    s.root.number re.port.small.1 sf.port.small.1 ids in
    sym re.number ∙ number ∙ sf.number

-- the cost of a bridge is its root path cost
pub cost_is : (machines : List Machine) (e : End) (m : Machine) (p : Port) → StandsAt machines e m p
    → cost_of machines e.bridge ≡ root_cost m
cost_is machines e m p s = ap (λ o. option_map_or root_cost o 0) s.machine

-- root path cost falls along Forwarding links, and each bridge has one such link upwards
pub settled_falls : (plan : Plan) (machines : List Machine) (passes : LinkPlan → Bool) → Network plan machines
    → Forwards plan machines passes
    → Falls plan passes (low_of machines) (cost_of machines)
settled_falls plan machines passes net forwards = record {
  known = λ n l at t. (sound-end plan net.sound n l (lower t l) at (lower_end t l)).bridge;
  falls = λ n l at active. fall (low_of machines l) l (oriented plan machines net n l at (forwards l active));
  one = λ n n' l l' at at' active active' bridge. one n n' l l' at at'
      (oriented plan machines net n l at (forwards l active))
      (oriented plan machines net n' l' at' (forwards l' active')) bridge;
}
  where
    fall : (t : Bool) (l : LinkPlan) → Oriented machines l t
        → cost_of machines (upper t l).bridge < cost_of machines (lower t l).bridge
    fall t l o =
        let r = o.rises in
        let above = cost_is machines (upper t l) r.above r.designated r.stands_above in
        let below = cost_is machines (lower t l) r.below r.root r.stands_below in
        let rises = r.cost in
        omega (arith, above, below, rises)

    one : (n n' : ℕ) (l l' : LinkPlan) → numbered plan.links n ≡ Some l → numbered plan.links n' ≡ Some l'
        → Oriented machines l (low_of machines l) → Oriented machines l' (low_of machines l')
        → (lower (low_of machines l) l).bridge ≡ (lower (low_of machines l') l').bridge → n ≡ n'
    one (suc i) (suc j) l l' at at' o o' bridge =
        let t = low_of machines l in
        let t' = low_of machines l' in
        let port = one_port plan machines net (upper t l) (lower t l) (upper t' l') (lower t' l') o.rises o'.rises
        bridge in
        ap suc (one_link plan net.sound i j (lower t l) (lower t' l') (placed plan i l t at) (placed plan j l' t' at')
        bridge port)
    one _ _ l l' at at' o o' bridge = cc

-- each bridge's link to its parent leads from its Root port
pub behind_roots : (plan : Plan) (machines : List Machine) (passes : LinkPlan → Bool) → Network plan machines
    → Forwards plan machines passes
    → LeadsBehindRoots plan machines (rooted_by plan passes (low_of machines) (cost_of machines))
behind_roots plan machines passes net forwards bridge number e =
    let h = numbered-only (up_of plan passes (low_of machines)) plan.bridges bridge (Some number) e in
    let u = is_up plan passes (low_of machines) bridge number (sym h.2) in (
      u.link,
      lower (low_of machines u.link) u.link,
      upper (low_of machines u.link) u.link,
      u.numbered_so,
      ends_either (low_of machines u.link) u.link,
      u.from,
      (oriented plan machines net number u.link u.numbered_so (forwards u.link u.active)).rises,
    )

-- links that pass only if both ends are Forwarding are a forest
pub forest_over : (plan : Plan) (machines : List Machine) (passes : LinkPlan → Bool) → Network plan machines
    → Forwards plan machines passes
    → IsForestBehindRoots plan machines passes
forest_over plan machines passes net forwards = (
  rooted_by plan passes (low_of machines) (cost_of machines),
  falling-shows plan passes (low_of machines) (cost_of machines) (settled_falls plan machines passes net forwards),
  behind_roots plan machines passes net forwards,
)

-- in a network that has converged, and in which no root path cost is cut, the Forwarding ports form forests
pub settled_is_forest : SettledIsForest
settled_is_forest plan machines sound are settled none_held =
    let net : Network plan machines = record { sound = sound; are = are; settled = settled; none_held = none_held } in
    record {
      whole = forest_over plan machines (are_ends_forwarding (shape_of plan machines)) net (λ link both. both);
      services = λ vid. forest_over plan machines (is_active plan (shape_of plan machines) vid) net
          (active_forwards plan machines vid);
      rises = λ number link at both. cost_rises plan machines sound are settled none_held number link at both;
    }
