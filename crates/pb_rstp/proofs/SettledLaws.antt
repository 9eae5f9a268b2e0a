-- In a settled network root path cost rises along every link with both ends Forwarding.
use Rattle.std.proofs.Common.{◌≡◌, ◌⊎◌, ℕ, ◌+◌, ◌*◌, ◌≤◌, ◌<◌, List, [], ◌∷◌, Some, refl, sym, ap, ◌∙◌, subst, true}
use Rattle.std.proofs.Common.{false, ◌==◌, inl, inr, arith}
use Rattle.std.specs.List.{AllByRecursion}
use Rattle.std.proofs.lemmas.Bool.{eqb-true}
use Rattle.pb_lan.specs.Numbering.{numbered}
use Rattle.pb_lan.specs.Plans.{IsSound}
use Rattle.pb_lan.proofs.Numbers.{numbered-All}
use Rattle.pb_lan.specs.declared.plan.Plan.{Plan}
use Rattle.pb_lan.specs.declared.plan.End.{End}
use Rattle.pb_lan.specs.declared.plan.LinkPlan.{LinkPlan}
use Rattle.pb_frame.proofs.Lists.{first-found, Some-injective}
use Rattle.pb_lan.proofs.PortsInPlans.{IsEndOf, sound-end}
use Rattle.pb_rstp.specs.Vectors.{own_vector, raised, greatest_cost}
use Rattle.pb_rstp.specs.Ports.{Machine, id_of, port_of, is_root, is_designated, is_root_or_designated, is_discarding}
use Rattle.pb_lan.specs.Shapes.{is_forwarding}
use Rattle.pb_rstp.specs.declared.port.Info.{Info}
use Rattle.pb_rstp.specs.declared.port.Port.{Port}
use Rattle.pb_rstp.specs.Roles.{root_vector, IsWay, IsWayOfSome, IsRootVector, HasRole}
use Rattle.pb_rstp.specs.Laws.{IsInLine, IsQuiet}
use Rattle.pb_rstp.specs.Tree.{root_cost, StandsAt, StoresOffer, LeadsTo, IsSettledLink, IsSettled, HasPorts}
use Rattle.pb_rstp.specs.Tree.{HasPortAt, AreMachines, IsNotHeld, NoneHeld, Rises, AreBothForwarding, CostRises}
use Rattle.pb_rstp.specs.declared.vector.Vector.{Vector}
use Rattle.pb_rstp.specs.declared.role.Role.{Role}
use Rattle.pb_rstp.specs.declared.role.Role.TheVariants.{Root, Designated}
use Rattle.pb_lan.specs.declared.shape.PortState.{PortState}
use Rattle.pb_lan.specs.declared.shape.PortState.TheVariants.{Discarding, Learning, Forwarding}
use Rattle.pb_rstp.proofs.RootLaws.{root_vector-is}

-- the port whose root path priority vector the root priority vector is
pub way_port : (P : Port → Type 0) (id : ℕ) (ports : List Port) (v : Vector) → AllByRecursion P ports
    → IsWayOfSome id ports v
    → (p : Port) × P p × IsWay id p v
way_port P id [] v all h = absurd h
way_port P id (p ∷ ps) v all (inl way) = (p, all.0, way)
way_port P id (p ∷ ps) v all (inr h) = way_port P id ps v all.1 h

-- the test for Root passes for that role alone
pub root_is : (r : Role) → is_root r ≡ true → r ≡ Root
root_is Root e = refl
root_is _ e = cc

-- equal port identifiers have equal port numbers
pub same_number : (p p' n n' : ℕ) → n < 256 → n' < 256 → p * 256 + n ≡ p' * 256 + n' → n ≡ n'
same_number p p' n n' h h' e = omega arith

-- what holds of each port of a bridge in line
pub record IsPortOf (m : Machine) (p : Port) : Type 0 where
  pub by_number : port_of m.ports p.number ≡ Some p
  pub small : (1 ≤ p.number) × (p.number < 256)
  pub role : HasRole m.id (root_vector m.id m.ports) p p.role
  pub quiet : IsQuiet p

-- it holds of all its ports
pub ports_known : (m : Machine) → IsInLine m → HasPorts m → AllByRecursion (IsPortOf m) m.ports
ports_known m line has = go m.ports line.roles line.states has.distinct has.small
  where
    go : (ports : List Port)
        → AllByRecursion (λ p. (root : Vector) → IsRootVector m.id m.ports root → HasRole m.id root p p.role) ports
        → AllByRecursion IsQuiet ports → AllByRecursion (λ p. port_of m.ports p.number ≡ Some p) ports
        → AllByRecursion (λ p. (1 ≤ p.number) × (p.number < 256)) ports → AllByRecursion (IsPortOf m) ports
    go [] roles quiet distinct small = tt
    go (p ∷ ps) roles quiet distinct small = (
      record {
        by_number = distinct.0;
        small = small.0;
        role = roles.0 (root_vector m.id m.ports) (root_vector-is m.id m.ports);
        quiet = quiet.0;
      },
      go ps roles.1 quiet.1 distinct.1 small.1,
    )

-- a port that is found by its number is one of them
pub known_port : (m : Machine) → IsInLine m → HasPorts m → (k : ℕ) (q : Port) → port_of m.ports k ≡ Some q
    → IsPortOf m q × (q.number ≡ k)
known_port m line has k q e =
    let h = first-found (IsPortOf m) (λ p. p.number == k) m.ports q e (ports_known m line has) in
    (h.0, eqb-true q.number k h.1)

-- the root priority vector is the root path priority vector of the Root port
pub root_way : (m : Machine) → IsInLine m → HasPorts m → (q : Port) → IsPortOf m q → q.role ≡ Root
    → IsWay m.id q (root_vector m.id m.ports)
root_way m line has q port role = by_candidate (root_vector-is m.id m.ports).candidate
  where
    root : Vector
    root = root_vector m.id m.ports

    came : root_vector m.id m.ports ≡ root_vector m.id m.ports → (root_vector m.id m.ports).receiving ≡ id_of q
    came e =
        let P : Role → Type 0 = λ r. HasRole m.id (root_vector m.id m.ports) q r in
        let h : HasRole m.id (root_vector m.id m.ports) q Root = subst P role port.role in
        eqb-true (root_vector m.id m.ports).receiving (id_of q) h.1

    by_candidate : (root_vector m.id m.ports ≡ own_vector m.id) ⊎ IsWayOfSome m.id m.ports (root_vector m.id m.ports)
        → IsWay m.id q (root_vector m.id m.ports)
    by_candidate (inl own) =
        let c = came refl in
        let z : (root_vector m.id m.ports).receiving ≡ 0 = ap (λ v. v.receiving) own in
        let small = port.small in
        absurd (omega (arith, c, z, small.0))
    by_candidate (inr ways) =
        let w = way_port (IsPortOf m) m.id m.ports (root_vector m.id m.ports) (ports_known m line has) ways in
        let c = came refl in
        let z : (root_vector m.id m.ports).receiving ≡ id_of w.0 = ap (λ v. v.receiving) w.2.4 in
        let number : q.number ≡ w.0.number = same_number q.priority w.0.priority q.number w.0.number port.small.1
        w.1.small.1 (sym c ∙ z) in
        let same : q ≡ w.0 = Some-injective (sym port.by_number ∙ ap (λ k. port_of m.ports k) number ∙ w.1.by_number) in
        let P : Port → Type 0 = λ p. IsWay m.id p (root_vector m.id m.ports) in
        subst P (sym same) w.2

-- a cost that does not exceed the greatest cost is not cut
pub held : (cost more : ℕ) → cost + more ≤ greatest_cost → raised cost more ≡ cost + more
held cost more h = omega arith

-- a bridge whose Root port stores what another offers has the greater root path cost
pub cost_falls : (m n : Machine) (p q : Port) → IsInLine n → HasPorts n → IsPortOf n q → q.role ≡ Root → IsNotHeld q
    → 1 ≤ q.cost
    → StoresOffer q m p → root_cost m < root_cost n
cost_falls m n p q line has port role not_held above (info, stored, offer) =
    let way = root_way n line has q port role in
    let same : way.0 ≡ info = Some-injective (sym way.2 ∙ stored) in
    let cost : root_cost n ≡ raised info.cost q.cost = ap (λ v. v.cost) way.4
    ∙ ap (λ (i : Info). raised i.cost q.cost) same in
    let told : info.cost ≡ root_cost m = second_of _ _ _ _ _ _ _ _ offer in
    let free = not_held (ap is_root role) info stored in
    let plain = held info.cost q.cost free in
    omega (arith, cost, plain, told, above)
  where
    second_of : (a b c d a' b' c' d' : ℕ) → a ∷ b ∷ c ∷ d ∷ [] ≡ a' ∷ b' ∷ c' ∷ d' ∷ [] → b ≡ b'
    second_of a b c d a' b' c' d' e = cc

-- no state is both Discarding and Forwarding
pub not_both : (s : PortState) → is_discarding s ≡ true → is_forwarding s ≡ true → ⊥
not_both Discarding d f = cc
not_both Learning d f = cc
not_both Forwarding d f = cc

-- a Forwarding port is Root or Designated
pub active_role : (r : Role) (s : PortState) → (is_root_or_designated r ≡ false → is_discarding s ≡ true)
    → is_forwarding s ≡ true → is_root_or_designated r ≡ true
active_role Root s quiet e = refl
active_role Designated s quiet e = refl
active_role _ s quiet e = absurd (not_both s (quiet refl) e)

-- a Root or Designated port is enabled
pub role_up : (id : ℕ) (root : Vector) (p : Port) (r : Role) → HasRole id root p r → is_root_or_designated r ≡ true
    → p.port_enabled ≡ true
role_up id root p Root h e = h.0
role_up id root p Designated h e = h.0
role_up id root p _ h e = cc

-- a port in the tree that is not Designated is Root
pub other_is_root : (r : Role) → is_root_or_designated r ≡ true → is_designated r ≡ false → is_root r ≡ true
other_is_root Root e d = refl
other_is_root _ e d = cc

-- what holds of a network that has converged, in a sound plan
pub record Network (plan : Plan) (machines : List Machine) : Type 0 where
  pub sound : IsSound plan
  pub are : AreMachines plan machines
  pub settled : IsSettled plan machines
  pub none_held : NoneHeld machines

-- what holds of the port at a link end
pub record Stands (plan : Plan) (machines : List Machine) (e : End) (m : Machine) (p : Port) : Type 0 where
  pub at : StandsAt machines e m p
  pub line : IsInLine m
  pub has : HasPorts m
  pub port : IsPortOf m p
  pub number : p.number ≡ e.port
  pub not_held : IsNotHeld p

-- it holds of every port at a link end
pub stands : (plan : Plan) (machines : List Machine) → Network plan machines → (e : End) (m : Machine) (p : Port)
    → StandsAt machines e m p → Stands plan machines e m p
stands plan machines net e m p at =
    let line = numbered-All IsInLine machines e.bridge m at.machine net.settled.in_line in
    let has = numbered-All HasPorts machines e.bridge m at.machine net.are.ports in
    let known = known_port m line has e.port p at.port in
    let free = numbered-All (λ n. AllByRecursion IsNotHeld n.ports) machines e.bridge m at.machine net.none_held in
    record {
      at = at;
      line = line;
      has = has;
      port = known.0;
      number = known.1;
      not_held = (first-found IsNotHeld (λ q. q.number == e.port) m.ports p at.port free).0;
    }

-- the port at a link end has a path cost of at least 1
pub cost_above : (plan : Plan) (machines : List Machine) → Network plan machines → (k : ℕ) (link : LinkPlan) (e : End)
    → numbered plan.links k ≡ Some link
    → IsEndOf link e → (m : Machine) (p : Port) → StandsAt machines e m p → 1 ≤ p.cost
cost_above plan machines net k link e at which m p stands_at =
    let ends = numbered-All (λ l. HasPortAt machines l.a × HasPortAt machines l.b) plan.links k link at net.are.ends in
    let here : HasPortAt machines e = of_end ends which in
    let machine : here.0 ≡ m = Some-injective (sym here.2.machine ∙ stands_at.machine) in
    let port : here.1 ≡ p = Some-injective (sym here.2.port ∙ ap (λ (n : Machine). port_of n.ports e.port) machine
    ∙ stands_at.port) in
    let cost : p.cost ≡ e.cost = ap (λ (q : Port). q.cost) (sym port) ∙ here.3 in
    let sound_cost = (sound-end plan net.sound k link e at which).cost in
    omega (arith, cost, sound_cost.0)
  where
    of_end : HasPortAt machines link.a × HasPortAt machines link.b → IsEndOf link e → HasPortAt machines e
    of_end both (inl h) = let P : End → Type 0 = λ f. HasPortAt machines f in subst P h both.0
    of_end both (inr h) = let P : End → Type 0 = λ f. HasPortAt machines f in subst P h both.1

-- root path cost rises from a Designated end to the other end, if that is Forwarding
pub rise : (plan : Plan) (machines : List Machine) → Network plan machines → (k : ℕ) (link : LinkPlan)
    → numbered plan.links k ≡ Some link
    → (upper lower : End) → IsEndOf link lower → (m n : Machine) (p q : Port) → StandsAt machines upper m p
    → StandsAt machines lower n q
    → LeadsTo m p q → is_forwarding q.state ≡ true → Rises machines upper lower
rise plan machines net k link at upper lower which m n p q above below leads forwarding =
    let s = stands plan machines net lower n q below in
    let active = active_role q.role q.state s.port.quiet forwarding in
    let root = other_is_root q.role active leads.there in
    record {
      above = m;
      below = n;
      designated = p;
      root = q;
      stands_above = above;
      stands_below = below;
      is_designated = leads.here;
      is_root = root;
      cost = cost_falls m n p q s.line s.has s.port (root_is q.role root) s.not_held
          (cost_above plan machines net k link lower at which n q below) leads.stores;
    }

-- root path cost rises along a link with both ends Forwarding, in one direction
pub rises : (plan : Plan) (machines : List Machine) → Network plan machines → (k : ℕ) (link : LinkPlan)
    → numbered plan.links k ≡ Some link
    → AreBothForwarding machines link → Rises machines link.a link.b ⊎ Rises machines link.b link.a
rises plan machines net k link at (m, n, p, q, here, there, p_forwarding, q_forwarding) =
    let sp = stands plan machines net link.a m p here in
    let sq = stands plan machines net link.b n q there in
    let p_up = role_up m.id (root_vector m.id m.ports) p p.role sp.port.role
    (active_role p.role p.state sp.port.quiet p_forwarding) in
    let q_up = role_up n.id (root_vector n.id n.ports) q q.role sq.port.role
    (active_role q.role q.state sq.port.quiet q_forwarding) in
    elim (numbered-All (IsSettledLink machines) plan.links k link at net.settled.links m n p q here there p_up q_up) [
      | inl leads ↦ inl (rise plan machines net k link at link.a link.b (inr refl) m n p q here there leads
          q_forwarding)
      | inr leads ↦ inr (rise plan machines net k link at link.b link.a (inl refl) n m q p there here leads
          p_forwarding)
    ]

-- root path cost rises along every link with both ends Forwarding
pub cost_rises : CostRises
cost_rises plan machines sound are settled none_held k link at both =
    rises plan machines (record { sound = sound; are = are; settled = settled; none_held = none_held }) k link at both
