-- The root priority vectors of bridges that have converged: none of a bridge's paths is better, and each bridge that is
-- not itself the root takes one.
use Rattle.std.proofs.Common.{◌≡◌, ◌≢◌, ◌⊎◌, inl, inr, ℕ, ◌+◌, ◌≤◌, List, [], ◌∷◌, Some, refl, sym, ap, ◌∙◌, subst}
use Rattle.std.proofs.Common.{Bool, true, false, ◌==◌, ap₂, if◌then◌else◌, arith}
use Rattle.pb_frame.proofs.Lists.{Some-injective}
use Rattle.pb_lan.specs.declared.plan.Plan.{Plan}
use Rattle.pb_lan.specs.declared.plan.End.{End}
use Rattle.pb_rstp.specs.Ports.{Machine, id_of, port_of, root_path}
use Rattle.pb_rstp.specs.Roles.{root_vector, IsWay, IsWayOfSome}
use Rattle.pb_rstp.specs.Tree.{LeadsTo, root_cost}
use Rattle.pb_rstp.specs.Vectors.{is_before, is_better, parts, raised}
use Rattle.pb_rstp.specs.declared.port.Port.{Port}
use Rattle.pb_rstp.specs.declared.vector.Vector.{Vector}
use Rattle.pb_rstp.proofs.RootLaws.{root_vector-is}
use Rattle.pb_spanning_tree.specs.TreeOf.{Disabling, path_over, vector_in}
use Rattle.pb_spanning_tree.proofs.Facts.{Converged, Linked, vectors_of, one_bridge}
use Rattle.pb_spanning_tree.proofs.Offers.{stores, leads_before}
use Rattle.pb_spanning_tree.proofs.Orders.{not_before_by, not_before_more, not_before_rest, head_least, greater_head}

-- a path through a port that a bridge has is one of the bridge's
way_of : (id : ℕ) (ports : List Port) (k : ℕ) (p : Port) (v : Vector) → port_of ports k ≡ Some p → IsWay id p v
    → IsWayOfSome id ports v
way_of id [] k p v e way = cc
way_of id (q ∷ qs) k p v e way = by_test (q.number == k) (way_of id qs k p v) e
  where
    by_test : (t : Bool) → (port_of qs k ≡ Some p → IsWay id p v → IsWayOfSome id qs v)
        → (if t then Some q else port_of qs k) ≡ Some p → IsWayOfSome id (q ∷ qs) v
    by_test true rest f = let P : Port → Type 0 = λ x. IsWay id x v in inl (subst P (sym (Some-injective f)) way)
    by_test false rest f = inr (rest f way)

-- what holds of the path over a link
record PathIs (plan : Plan) (machines : List Machine) (near far : End) (p : Port) (n : Machine) (q : Port) : Type 0 where
  root : (path_over plan (vectors_of machines) near far).root ≡ (root_vector n.id n.ports).root
  cost : (path_over plan (vectors_of machines) near far).cost ≡ root_cost n + p.cost
  bridge : (path_over plan (vectors_of machines) near far).bridge ≡ n.id
  port : (path_over plan (vectors_of machines) near far).port ≡ id_of q
  receiving : (path_over plan (vectors_of machines) near far).receiving ≡ id_of p

-- it follows from the ports at the link
path_is : (plan : Plan) (machines : List Machine) (disabled : Disabling) (near far : End)
    → (l : Linked plan machines disabled near far)
    → PathIs plan machines near far l.here.port l.there.machine l.there.port
path_is plan machines disabled near far l = record {
  root = ap (λ (v : Vector). v.root) l.there.is.vector;
  cost = ap₂ (λ x y. x + y) (ap (λ (v : Vector). v.cost) l.there.is.vector) (sym l.here.is.cost);
  bridge = l.there.is.bridge;
  port = sym l.there.is.id;
  receiving = sym l.here.is.id;
}

-- lists of five numbers, each equal to the other's, are equal
five : (a a' b b' d d' e e' f f' : ℕ) → a ≡ a' → b ≡ b' → d ≡ d' → e ≡ e' → f ≡ f'
    → a ∷ b ∷ d ∷ e ∷ f ∷ [] ≡ a' ∷ b' ∷ d' ∷ e' ∷ f' ∷ []
five a a' b b' d d' e e' f f' h h' h'' h''' h'''' = cc

-- no path over an enabled link to another bridge is better than the bridge's vector
pub none_better : (plan : Plan) (machines : List Machine) (disabled : Disabling) → Converged plan machines disabled
    → (near far : End) → (l : Linked plan machines disabled near far) → l.here.port.port_enabled ≡ true
    → l.there.port.port_enabled ≡ true → near.bridge ≢ far.bridge
    → is_better (path_over plan (vectors_of machines) near far) (vector_in (vectors_of machines) near.bridge) ≡ false
none_better plan machines disabled c near far l here_up there_up other =
    let P : Vector → Type 0 = λ w. is_better (path_over plan (vectors_of machines) near far) w ≡ false in
    subst P (sym l.here.is.vector) (by_leader (l.settled here_up there_up))
  where
    m : Machine
    m = l.here.machine

    n : Machine
    n = l.there.machine

    p : Port
    p = l.here.port

    q : Port
    q = l.there.port

    root : Vector
    root = root_vector l.here.machine.id l.here.machine.ports

    path : Vector
    path = path_over plan (vectors_of machines) near far

    is : PathIs plan machines near far l.here.port l.there.machine l.there.port
    is = path_is plan machines disabled near far l

    by_leader : LeadsTo l.here.machine l.here.port l.there.port ⊎ LeadsTo l.there.machine l.there.port l.here.port
        → is_better (path_over plan (vectors_of machines) near far)
        (root_vector l.here.machine.id l.here.machine.ports) ≡ false
    by_leader (inl leads) =
        let e = leads_before plan machines disabled far m n p q l.there.is there_up leads in
        let offer = root_cost n ∷ n.id ∷ id_of q ∷ [] in
        let best = root_cost m ∷ m.id ∷ id_of p ∷ [] in
        let h = head_least (root_vector n.id n.ports).root root.root offer best e in
        let above = l.here.is.above in
        let near_cost = l.here.is.cost in
        let same_root = is.root in
        let sum = is.cost in
        not_before_by path.root root.root (path.cost ∷ path.bridge ∷ path.port ∷ path.receiving ∷ [])
        (root.cost ∷ root.bridge ∷ root.port ∷ root.receiving ∷ [])
        (omega (arith, h, same_root))
        (λ same.
        let f = not_before_rest (root_vector n.id n.ports).root root.root offer best e (sym same_root ∙ same) in
        let g = head_least (root_cost n) (root_cost m) (n.id ∷ id_of q ∷ []) (m.id ∷ id_of p ∷ []) f in
        greater_head path.cost root.cost (path.bridge ∷ path.port ∷ path.receiving ∷ [])
        (root.bridge ∷ root.port ∷ root.receiving ∷ []) (omega (arith, g, above, near_cost, sum)))
    by_leader (inr leads) =
        let s = stores p n q leads.stores in
        let apart : s.info.bridge ≢ m.id = λ e. other
        (one_bridge plan machines c.planned near.bridge far.bridge m n l.here.is.stands.at.machine
        l.there.is.stands.at.machine (sym e ∙ s.bridge)) in
        let way = way_of m.id m.ports near.port p (root_path p s.info) l.here.is.stands.at.port
        (s.info, here_up, s.is, apart, refl) in
        let least = (root_vector-is m.id m.ports).least (root_path p s.info) (inr way) in
        let more : raised s.info.cost p.cost ≤ s.info.cost + p.cost = omega arith in
        let least' = not_before_more s.info.root (raised s.info.cost p.cost) (s.info.cost + p.cost) root.root
        root.cost (s.info.bridge ∷ s.info.port ∷ id_of p ∷ []) (root.bridge ∷ root.port ∷ root.receiving ∷ [])
        more least in
        let r : s.info.root ≡ path.root = s.root ∙ sym is.root in
        let k : s.info.cost + p.cost ≡ path.cost = ap (λ x. x + p.cost) s.cost ∙ sym is.cost in
        let b : s.info.bridge ≡ path.bridge = s.bridge ∙ sym is.bridge in
        let t : s.info.port ≡ path.port = s.port ∙ sym is.port in
        let v : id_of p ≡ path.receiving = sym is.receiving in
        subst (λ (x : List ℕ). is_before x (parts root) ≡ false)
        (five s.info.root path.root (s.info.cost + p.cost) path.cost s.info.bridge path.bridge s.info.port path.port
        (id_of p) path.receiving r k b t v) least'
