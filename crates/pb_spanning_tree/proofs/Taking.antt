-- A bridge that has converged, and is not itself the root, takes a path over a link.
use Rattle.std.proofs.Common.{◌≡◌, ◌⊎◌, inl, inr, ℕ, List, Some, refl, sym, ap, ◌∙◌, subst}
use Rattle.std.proofs.Common.{Bool, true, false, ◌&&◌, ap₂, not, arith}
use Rattle.std.proofs.lemmas.Bool.{eq-eqb}
use Rattle.pb_frame.proofs.Lists.{Some-injective, All-both}
use Rattle.pb_lan.specs.Forests.{HasEnds}
use Rattle.pb_lan.specs.Numbering.{numbered}
use Rattle.pb_lan.specs.declared.plan.Plan.{Plan}
use Rattle.pb_lan.specs.declared.plan.End.{End}
use Rattle.pb_lan.specs.declared.plan.LinkPlan.{LinkPlan}
use Rattle.pb_lan.proofs.Numbers.{numbered-All}
use Rattle.pb_lan.proofs.PortsInPlans.{both-ends}
use Rattle.pb_rstp.specs.Ports.{Machine, id_of, port_of, is_designated}
use Rattle.pb_rstp.specs.Laws.{IsInLine}
use Rattle.pb_rstp.specs.Roles.{root_vector, came_from, HasRole, IsWay, IsWayOfSome}
use Rattle.pb_rstp.specs.Tree.{LeadsTo, HasPorts, root_cost}
use Rattle.pb_rstp.specs.Vectors.{own_vector}
use Rattle.pb_rstp.specs.declared.port.Info.{Info}
use Rattle.pb_rstp.specs.declared.port.Port.{Port}
use Rattle.pb_rstp.specs.declared.role.Role.{Role}
use Rattle.pb_rstp.specs.declared.role.Role.TheVariants.{Disabled, Root, Designated, Alternate, Backup}
use Rattle.pb_rstp.specs.declared.vector.Vector.{Vector}
use Rattle.pb_rstp.proofs.RootLaws.{root_vector-is}
use Rattle.pb_rstp.proofs.SettledLaws.{IsPortOf, ports_known, way_port}
use Rattle.pb_spanning_tree.specs.TreeOf.{Disabling, is_down, is_enabled, own_of, path_over, vector_in}
use Rattle.pb_spanning_tree.specs.Solutions.{TakesPath}
use Rattle.pb_spanning_tree.specs.Laws.{IsAtLink}
use Rattle.pb_spanning_tree.proofs.Facts.{Converged, Linked, linked, vectors_of, id_is, vector_of}
use Rattle.pb_spanning_tree.proofs.Offers.{Stores, stores, cost_through}

-- vectors with equal components are equal
pub same_vectors : (v w : Vector) → v.root ≡ w.root → v.cost ≡ w.cost → v.bridge ≡ w.bridge → v.port ≡ w.port
    → v.receiving ≡ w.receiving → v ≡ w
same_vectors v w root cost bridge port receiving =
    λ i. record { root = root i; cost = cost i; bridge = bridge i; port = port i; receiving = receiving i }

-- an enabled port where the root priority vector came in is the Root port
pub root_by : (id : ℕ) (root : Vector) (p : Port) (r : Role) → HasRole id root p r → p.port_enabled ≡ true
    → came_from root p ≡ true → r ≡ Root
root_by id root p Root h up came = refl
root_by id root p Disabled h up came = cc
root_by id root p Designated h up came = let f = h.1 in cc
root_by id root p Backup h up came = let f = h.1 in cc
root_by id root p Alternate h up came = let f = h.1 in cc

-- a link is enabled if its two ends are
pub enabled_by : (disabled : Disabling) (link : LinkPlan) (near far : End) → HasEnds link near far
    → not (is_down disabled near) ≡ true → not (is_down disabled far) ≡ true → is_enabled disabled link ≡ true
enabled_by disabled link near far ends here there =
    let both = both-ends (λ e. not (is_down disabled e) ≡ true) link near far ends here there in
    ap₂ (λ x y. x && y) both.0 both.1

-- a bridge whose vector came in at a port takes the path over the port's link
takes_over : (plan : Plan) (machines : List Machine) (disabled : Disabling) → Converged plan machines disabled
    → (number : ℕ) (link : LinkPlan) (near far : End) → numbered plan.links number ≡ Some link → HasEnds link near far
    → (l : Linked plan machines disabled near far)
    → IsWay l.here.machine.id l.here.port (root_vector l.here.machine.id l.here.machine.ports)
    → TakesPath plan disabled (vectors_of machines) near.bridge
takes_over plan machines disabled c number link near far at ends l (info, up, stored, other, is) =
    by_far l.there.port.port_enabled refl
  where
    m : Machine
    m = l.here.machine

    n : Machine
    n = l.there.machine

    p : Port
    p = l.here.port

    q : Port
    q = l.there.port

    root : Vector
    root = root_vector l.here.machine.id l.here.machine.ports

    role : l.here.port.role ≡ Root
    role = root_by m.id root p p.role l.here.is.stands.port.role up
        (eq-eqb root.receiving (id_of p) (ap (λ v. v.receiving) is))

    not_designated : is_designated l.here.port.role ≡ true → ⊥
    not_designated e = let r = role in cc

    by_stored : (s : Stores l.here.port l.there.machine l.there.port) → l.there.port.port_enabled ≡ true
        → TakesPath plan disabled (vectors_of machines) near.bridge
    by_stored s there_up =
        let same : info ≡ s.info = Some-injective (sym stored ∙ s.is) in
        let cost = cost_through plan machines disabled near m p l.here.is role n q s in
        let above = l.here.is.above in
        let here_cost : (vector_in (vectors_of machines) near.bridge).cost ≡ root_cost m = ap (λ v. v.cost)
        l.here.is.vector in
        let there_cost : (vector_in (vectors_of machines) far.bridge).cost ≡ root_cost n = ap (λ v. v.cost)
        l.there.is.vector in
        record {
          number = number;
          link = link;
          near = near;
          far = far;
          at = at;
          ends = ends;
          enabled = enabled_by disabled link near far ends (sym l.here.is.enabled ∙ up)
              (sym l.there.is.enabled ∙ there_up);
          from = refl;
          other = λ e.
              let machine : n ≡ m = Some-injective (sym l.there.is.stands.at.machine
              ∙ ap (λ b. numbered machines b) e ∙ l.here.is.stands.at.machine) in
              other (ap (λ (x : Info). x.bridge) same ∙ s.bridge ∙ ap (λ (x : Machine). x.id) machine);
          vector = l.here.is.vector
              ∙ same_vectors root (path_over plan (vectors_of machines) near far)
              (cost.1 ∙ sym (ap (λ v. v.root) l.there.is.vector))
              (omega (arith, cost.0, there_cost))
              (ap (λ v. v.bridge) is ∙ ap (λ (x : Info). x.bridge) same ∙ s.bridge ∙ sym l.there.is.bridge)
              (ap (λ v. v.port) is ∙ ap (λ (x : Info). x.port) same ∙ s.port ∙ l.there.is.id)
              (ap (λ v. v.receiving) is ∙ l.here.is.id);
          rises = omega (arith, cost.0, there_cost, here_cost, above);
        }

    by_leader : l.there.port.port_enabled ≡ true
        → LeadsTo l.here.machine l.here.port l.there.port ⊎ LeadsTo l.there.machine l.there.port l.here.port
        → TakesPath plan disabled (vectors_of machines) near.bridge
    by_leader there_up (inl leads) = absurd (not_designated leads.here)
    by_leader there_up (inr leads) = by_stored (stores p n q leads.stores) there_up

    by_far : (t : Bool) → l.there.port.port_enabled ≡ t → TakesPath plan disabled (vectors_of machines) near.bridge
    by_far true e = by_leader e (l.settled up e)
    by_far false e = absurd (not_designated (l.alone up e))

-- what holds of each port of a bridge
abbrev IsKnown : Plan → ℕ → Machine → Port → Type 0
IsKnown plan b m p = IsPortOf m p × IsAtLink plan b p.number

-- each bridge is itself the root, or takes a path
pub takes : (plan : Plan) (machines : List Machine) (disabled : Disabling) → Converged plan machines disabled
    → (b : ℕ) (m : Machine) → numbered machines b ≡ Some m
    → (vector_in (vectors_of machines) b ≡ own_of plan b) ⊎ TakesPath plan disabled (vectors_of machines) b
takes plan machines disabled c b m at = by_candidate (root_vector-is m.id m.ports).candidate
  where
    over : (p : Port) → IsKnown plan b m p → IsWay m.id p (root_vector m.id m.ports)
        → TakesPath plan disabled (vectors_of machines) b
    over p known way =
        let a = known.1 in
        let l = linked plan machines disabled c a.number a.link a.at a.near a.far a.ends in
        let machine : m ≡ l.here.machine = Some-injective (sym at ∙ ap (λ x. numbered machines x) (sym a.from)
        ∙ l.here.is.stands.at.machine) in
        let port : p ≡ l.here.port = Some-injective (sym known.0.by_number ∙ ap (λ x. port_of m.ports x) (sym a.through)
        ∙ ap (λ (x : Machine). port_of x.ports a.near.port) machine ∙ l.here.is.stands.at.port) in
        let P : Machine → Type 0 = λ x. IsWay x.id p (root_vector x.id x.ports) in
        let Q : Port → Type 0 = λ x. IsWay l.here.machine.id x (root_vector l.here.machine.id l.here.machine.ports) in
        subst (TakesPath plan disabled (vectors_of machines)) a.from
        (takes_over plan machines disabled c a.number a.link a.near a.far a.at a.ends l
        (subst Q port (subst P machine way)))

    by_candidate : (root_vector m.id m.ports ≡ own_vector m.id) ⊎ IsWayOfSome m.id m.ports (root_vector m.id m.ports)
        → (vector_in (vectors_of machines) b ≡ own_of plan b) ⊎ TakesPath plan disabled (vectors_of machines) b
    by_candidate (inl own) =
        inl (vector_of machines b m at ∙ own ∙ ap own_vector (sym (id_is plan machines c.planned b m at)))
    by_candidate (inr ways) =
        let line = numbered-All IsInLine machines b m at c.converged.settled.in_line in
        let has = numbered-All HasPorts machines b m at c.planned.machines_are.ports in
        let w = way_port (IsKnown plan b m) m.id m.ports (root_vector m.id m.ports)
        (All-both (IsPortOf m) (λ p. IsAtLink plan b p.number) m.ports (ports_known m line has)
        (c.planned.at_links b m at)) ways in
        inr (over w.0 w.1 w.2)
