-- What a Designated port offers is not worse than what the other end of its link offers.
use Rattle.std.proofs.Common.{◌≡◌, ℕ, ◌+◌, List, [], ◌∷◌, Some, refl, sym, ap, ◌∙◌, subst}
use Rattle.std.proofs.Common.{Bool, true, false, arith}
use Rattle.std.specs.declared.option.Option.{Option}
use Rattle.pb_frame.proofs.Lists.{Some-injective}
use Rattle.pb_lan.specs.declared.plan.Plan.{Plan}
use Rattle.pb_lan.specs.declared.plan.End.{End}
use Rattle.pb_rstp.specs.Ports.{Machine, id_of, is_designated, is_root}
use Rattle.pb_rstp.specs.Messages.{known}
use Rattle.pb_rstp.specs.Roles.{root_vector, HasRole, StoresBetter}
use Rattle.pb_rstp.specs.Tree.{LeadsTo, StoresOffer, offered, root_cost}
use Rattle.pb_rstp.specs.Vectors.{is_before, raised}
use Rattle.pb_rstp.specs.declared.port.Info.{Info}
use Rattle.pb_rstp.specs.declared.port.Port.{Port}
use Rattle.pb_rstp.specs.declared.role.Role.{Role}
use Rattle.pb_rstp.specs.declared.role.Role.TheVariants.{Disabled, Root, Designated, Alternate, Backup}
use Rattle.pb_rstp.proofs.SettledLaws.{root_way}
use Rattle.pb_spanning_tree.specs.TreeOf.{Disabling}
use Rattle.pb_spanning_tree.proofs.Facts.{AtEnd}
use Rattle.pb_spanning_tree.proofs.Orders.{not_before_by, not_before_front, greater_head}

-- what a port stores, number by number
pub record Stores (q : Port) (m : Machine) (p : Port) : Type 0 where
  pub info : Info
  pub is : q.info ≡ Some info
  pub root : info.root ≡ (root_vector m.id m.ports).root
  pub cost : info.cost ≡ root_cost m
  pub bridge : info.bridge ≡ m.id
  pub port : info.port ≡ id_of p
  pub offer : known info ≡ offered m p

-- a port that stores an offer stores its numbers
pub stores : (q : Port) (m : Machine) (p : Port) → StoresOffer q m p → Stores q m p
stores q m p (info, is, offer) = record {
  info = info;
  is = is;
  root = cc;
  cost = cc;
  bridge = cc;
  port = cc;
  offer = offer;
}

-- the root path cost through a Root port that stores an offer is the offered one plus the port's
pub cost_through : (plan : Plan) (machines : List Machine) (disabled : Disabling) (e : End) (n : Machine) (q : Port)
    → AtEnd plan machines disabled e n q → q.role ≡ Root → (m : Machine) (p : Port) → Stores q m p
    → (root_cost n ≡ root_cost m + e.cost) × ((root_vector n.id n.ports).root ≡ (root_vector m.id m.ports).root)
cost_through plan machines disabled e n q a role m p s =
    let way = root_way n a.stands.line a.stands.has q a.stands.port role in
    let same : way.0 ≡ s.info = Some-injective (sym way.2 ∙ s.is) in
    let cost : root_cost n ≡ raised s.info.cost q.cost = ap (λ v. v.cost) way.4
    ∙ ap (λ (i : Info). raised i.cost q.cost) same in
    let root : (root_vector n.id n.ports).root ≡ s.info.root = ap (λ v. v.root) way.4
    ∙ ap (λ (i : Info). i.root) same in
    let free = a.stands.not_held (ap is_root role) s.info s.is in
    (omega (arith, cost, free, s.cost, a.cost), root ∙ s.root)

-- the other end of a Designated port's link offers nothing better
pub leads_before : (plan : Plan) (machines : List Machine) (disabled : Disabling) (e : End) (m n : Machine) (p q : Port)
    → AtEnd plan machines disabled e n q → q.port_enabled ≡ true → LeadsTo m p q
    → is_before (offered n q) (offered m p) ≡ false
leads_before plan machines disabled e m n p q a enabled leads = by_role q.role refl a.stands.port.role
  where
    s : Stores q m p
    s = stores q m p leads.stores

    by_stored : (own : Bool) → StoresBetter n.id (root_vector n.id n.ports) q q.info own
        → is_before (offered n q) (offered m p) ≡ false
    by_stored own h =
        let P : Option Info → Type 0 = λ o. StoresBetter n.id (root_vector n.id n.ports) q o own in
        let b = subst P s.is h in
        let Q : List ℕ → Type 0 = λ l. is_before (offered n q) l ≡ false in
        subst Q s.offer
        (not_before_front (offered n q) (s.info.root ∷ s.info.cost ∷ s.info.bridge ∷ s.info.port ∷ []) (id_of q)
        (id_of q) b.0)

    by_role : (r : Role) → q.role ≡ r → HasRole n.id (root_vector n.id n.ports) q r
        → is_before (offered n q) (offered m p) ≡ false
    by_role Disabled role h = cc
    by_role Root role h =
        let t = cost_through plan machines disabled e n q a role m p s in
        let above = a.above in
        not_before_by (root_vector n.id n.ports).root (root_vector m.id m.ports).root
        (root_cost n ∷ n.id ∷ id_of q ∷ []) (root_cost m ∷ m.id ∷ id_of p ∷ [])
        (omega (arith, t.1))
        (λ same. greater_head (root_cost n) (root_cost m) (n.id ∷ id_of q ∷ []) (m.id ∷ id_of p ∷ [])
        (omega (arith, t.0, above)))
    by_role Designated role h = let f = leads.there in let g = ap is_designated role in cc
    by_role Backup role h = by_stored true h.2
    by_role Alternate role h = by_stored false h.2
