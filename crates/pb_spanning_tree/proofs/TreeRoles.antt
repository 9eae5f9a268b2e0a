-- The roles of ports of bridges that have converged are those of the vectors.
use Rattle.std.proofs.Common.{◌≡◌, ◌⊎◌, inl, inr, ℕ, List, refl, sym, ap, ap₂, ◌∙◌, subst}
use Rattle.std.proofs.Common.{Bool, true, false, ◌==◌, ◌||◌, not, if◌then◌else◌}
use Rattle.std.specs.declared.option.Option.{Option}
use Rattle.std.proofs.lemmas.Bool.{eqb-true, eq-eqb}
use Rattle.pb_frame.proofs.Lists.{Some-injective}
use Rattle.pb_lan.specs.Numbering.{numbered}
use Rattle.pb_lan.specs.declared.plan.Plan.{Plan}
use Rattle.pb_lan.specs.declared.plan.End.{End}
use Rattle.pb_rstp.specs.Ports.{Machine, id_of, is_designated}
use Rattle.pb_rstp.specs.Roles.{root_vector, came_from, HasRole, StoresBetter}
use Rattle.pb_rstp.specs.Tree.{LeadsTo, offered}
use Rattle.pb_rstp.specs.Vectors.{is_before}
use Rattle.pb_rstp.specs.declared.port.Info.{Info}
use Rattle.pb_rstp.specs.declared.port.Port.{Port}
use Rattle.pb_rstp.specs.declared.role.Role.{Role}
use Rattle.pb_rstp.specs.declared.role.Role.TheVariants.{Disabled, Root, Designated, Alternate, Backup}
use Rattle.pb_rstp.specs.declared.vector.Vector.{Vector}
use Rattle.pb_rstp.proofs.OrderLaws.{before-antisym}
use Rattle.pb_rstp.proofs.SettledLaws.{same_number}
use Rattle.pb_spanning_tree.specs.TreeOf.{Disabling, is_down, is_root_end, offer_by, other_role_by, role_by}
use Rattle.pb_spanning_tree.proofs.Facts.{Converged, HasEnd, Linked, vectors_of, one_bridge}
use Rattle.pb_spanning_tree.proofs.Offers.{Stores, stores, leads_before}
use Rattle.pb_spanning_tree.proofs.Taking.{root_by}

-- a port that is not enabled is Disabled
disabled_by : (id : ℕ) (root : Vector) (p : Port) (r : Role) → HasRole id root p r → p.port_enabled ≡ false
    → r ≡ Disabled
disabled_by id root p Disabled h down = refl
disabled_by id root p Root h down = let f = h.0 in cc
disabled_by id root p Designated h down = let f = h.0 in cc
disabled_by id root p Backup h down = let f = h.0 in cc
disabled_by id root p Alternate h down = let f = h.0 in cc

-- the test for Designated passes for that role alone
designated_is : (r : Role) → is_designated r ≡ true → r ≡ Designated
designated_is Designated e = refl
designated_is _ e = cc

-- what an end offers by the vectors is what its port offers
offer_is : (plan : Plan) (machines : List Machine) (disabled : Disabling) (e : End)
    → (h : HasEnd plan machines disabled e)
    → offer_by plan (vectors_of machines) e ≡ offered h.machine h.port
offer_is plan machines disabled e h =
    let root = ap (λ (v : Vector). v.root) h.is.vector in
    let cost = ap (λ (v : Vector). v.cost) h.is.vector in
    let bridge = h.is.bridge in
    let port = h.is.id in
    cc

-- an end is the Root end if the root priority vector came in at its port
pub root_end_is : (plan : Plan) (machines : List Machine) (disabled : Disabling) (e : End)
    → (h : HasEnd plan machines disabled e)
    → is_root_end (vectors_of machines) e ≡ came_from (root_vector h.machine.id h.machine.ports) h.port
root_end_is plan machines disabled e h =
    ap₂ (λ x y. x == y) (ap (λ (v : Vector). v.receiving) h.is.vector) (sym h.is.id)

-- ends of one link at one bridge have one machine
one_machine : (plan : Plan) (machines : List Machine) (disabled : Disabling) (near far : End)
    → (l : Linked plan machines disabled near far) → near.bridge ≡ far.bridge → l.here.machine ≡ l.there.machine
one_machine plan machines disabled near far l same =
    Some-injective (sym l.here.is.stands.at.machine ∙ ap (λ b. numbered machines b) same
    ∙ l.there.is.stands.at.machine)

-- a Designated port offers more than the other end
strictly_before : (plan : Plan) (machines : List Machine) (disabled : Disabling) → Converged plan machines disabled
    → (near far : End) (l : Linked plan machines disabled near far) → l.there.port.port_enabled ≡ true
    → LeadsTo l.here.machine l.here.port l.there.port
    → is_before (offered l.here.machine l.here.port) (offered l.there.machine l.there.port) ≡ true
strictly_before plan machines disabled c near far l up leads =
    by_test (is_before (offered l.here.machine l.here.port) (offered l.there.machine l.there.port)) refl
  where
    m : Machine
    m = l.here.machine

    n : Machine
    n = l.there.machine

    p : Port
    p = l.here.port

    q : Port
    q = l.there.port

    not_same : offered l.here.machine l.here.port ≡ offered l.there.machine l.there.port → ⊥
    not_same e =
        let id : l.here.machine.id ≡ l.there.machine.id = cc in
        let port : id_of l.here.port ≡ id_of l.there.port = cc in
        let bridge = one_bridge plan machines c.planned near.bridge far.bridge m n l.here.is.stands.at.machine
        l.there.is.stands.at.machine id in
        let number = same_number p.priority q.priority p.number q.number l.here.is.stands.port.small.1
        l.there.is.stands.port.small.1 port in
        l.apart bridge (sym l.here.is.stands.number ∙ number ∙ l.there.is.stands.number)

    by_test : (t : Bool) → is_before (offered l.here.machine l.here.port) (offered l.there.machine l.there.port) ≡ t
        → t ≡ true
    by_test true e = refl
    by_test false e =
        absurd (not_same (before-antisym (offered m p) (offered n q) refl e
        (leads_before plan machines disabled far m n p q l.there.is up leads)))

-- the role of a port whose link's other end leads is Backup at its own bridge's link, and else Alternate
led_role : (plan : Plan) (machines : List Machine) (disabled : Disabling) → Converged plan machines disabled
    → (near far : End) (l : Linked plan machines disabled near far) → l.here.port.port_enabled ≡ true
    → came_from (root_vector l.here.machine.id l.here.machine.ports) l.here.port ≡ false
    → LeadsTo l.there.machine l.there.port l.here.port
    → l.here.port.role ≡ (if near.bridge == far.bridge then Backup else Alternate)
led_role plan machines disabled c near far l up came leads = by_role l.here.port.role refl l.here.is.stands.port.role
  where
    m : Machine
    m = l.here.machine

    root : Vector
    root = root_vector l.here.machine.id l.here.machine.ports

    s : Stores l.here.port l.there.machine l.there.port
    s = stores l.here.port l.there.machine l.there.port leads.stores

    own_is : (own : Bool) → StoresBetter m.id root l.here.port l.here.port.info own → (l.there.machine.id == m.id) ≡ own
    own_is own h =
        let P : Option Info → Type 0 = λ o. StoresBetter m.id root l.here.port o own in
        let b = subst P s.is h in
        ap (λ x. x == m.id) (sym s.bridge) ∙ b.1

    same_bridge : (l.there.machine.id == m.id) ≡ true → (near.bridge == far.bridge) ≡ true
    same_bridge e = eq-eqb near.bridge far.bridge
        (one_bridge plan machines c.planned near.bridge far.bridge m l.there.machine l.here.is.stands.at.machine
        l.there.is.stands.at.machine (sym (eqb-true l.there.machine.id m.id e)))

    other_bridge : (l.there.machine.id == m.id) ≡ false → (near.bridge == far.bridge) ≡ false
    other_bridge e = by_test (near.bridge == far.bridge) refl
      where
        by_test : (t : Bool) → (near.bridge == far.bridge) ≡ t → t ≡ false
        by_test false f = refl
        by_test true f =
            let one = one_machine plan machines disabled near far l (eqb-true near.bridge far.bridge f) in
            let same = eq-eqb l.there.machine.id m.id (ap (λ (x : Machine). x.id) (sym one)) in cc

    by_role : (r : Role) → l.here.port.role ≡ r → HasRole m.id root l.here.port r
        → r ≡ (if near.bridge == far.bridge then Backup else Alternate)
    by_role Disabled role h = cc
    by_role Root role h = let f = h.1 in cc
    by_role Designated role h = let f = leads.there in let g = ap is_designated role in cc
    by_role Backup role h = ap (λ t. if t then Backup else Alternate) (sym (same_bridge (own_is true h.2)))
    by_role Alternate role h = ap (λ t. if t then Backup else Alternate) (sym (other_bridge (own_is false h.2)))

-- each port at an end of a link has the role of the vectors
pub role_is : (plan : Plan) (machines : List Machine) (disabled : Disabling) → Converged plan machines disabled
    → (near far : End) (l : Linked plan machines disabled near far)
    → l.here.port.role ≡ role_by plan disabled (vectors_of machines) near far
role_is plan machines disabled c near far l = by_down (is_down disabled near) refl
  where
    root : Vector
    root = root_vector l.here.machine.id l.here.machine.ports

    known : HasRole l.here.machine.id root l.here.port l.here.port.role
    known = l.here.is.stands.port.role

    before_is : (t : Bool) → is_before (offered l.here.machine l.here.port) (offered l.there.machine l.there.port) ≡ t
        → is_before (offer_by plan (vectors_of machines) near) (offer_by plan (vectors_of machines) far) ≡ t
    before_is t e = ap₂ (λ x y. is_before x y) (offer_is plan machines disabled near l.here)
        (offer_is plan machines disabled far l.there) ∙ e

    by_leader : l.here.port.port_enabled ≡ true → l.there.port.port_enabled ≡ true → came_from root l.here.port ≡ false
        → LeadsTo l.here.machine l.here.port l.there.port ⊎ LeadsTo l.there.machine l.there.port l.here.port
        → l.here.port.role
        ≡ (if is_before (offer_by plan (vectors_of machines) near) (offer_by plan (vectors_of machines) far)
        then Designated else (if near.bridge == far.bridge then Backup else Alternate))
    by_leader up there_up came (inl leads) =
        designated_is l.here.port.role leads.here
        ∙ ap (λ t. if t then Designated else (if near.bridge == far.bridge then Backup else Alternate))
        (sym (before_is true (strictly_before plan machines disabled c near far l there_up leads)))
    by_leader up there_up came (inr leads) =
        led_role plan machines disabled c near far l up came leads
        ∙ ap (λ t. if t then Designated else (if near.bridge == far.bridge then Backup else Alternate))
        (sym (before_is false (leads_before plan machines disabled near l.there.machine l.here.machine l.there.port
        l.here.port l.here.is up leads)))

    by_far : l.here.port.port_enabled ≡ true → came_from root l.here.port ≡ false → (t : Bool)
        → is_down disabled far ≡ t
        → l.here.port.role
        ≡ (if t || is_before (offer_by plan (vectors_of machines) near) (offer_by plan (vectors_of machines) far)
        then Designated else (if near.bridge == far.bridge then Backup else Alternate))
    by_far up came true e =
        designated_is l.here.port.role (l.alone up (l.there.is.enabled ∙ ap not e))
    by_far up came false e =
        let there_up = l.there.is.enabled ∙ ap not e in by_leader up there_up came (l.settled up there_up)

    by_root : l.here.port.port_enabled ≡ true → (t : Bool) → is_root_end (vectors_of machines) near ≡ t
        → l.here.port.role ≡ (if t then Root else other_role_by plan disabled (vectors_of machines) near far)
    by_root up true e = root_by l.here.machine.id root l.here.port l.here.port.role known up
        (sym (root_end_is plan machines disabled near l.here) ∙ e)
    by_root up false e =
        by_far up (sym (root_end_is plan machines disabled near l.here) ∙ e) (is_down disabled far) refl

    by_down : (t : Bool) → is_down disabled near ≡ t
        → l.here.port.role
        ≡ (if t then Disabled else (if is_root_end (vectors_of machines) near then Root
        else other_role_by plan disabled (vectors_of machines) near far))
    by_down true e = disabled_by l.here.machine.id root l.here.port l.here.port.role known
        (l.here.is.enabled ∙ ap not e)
    by_down false e = by_root (l.here.is.enabled ∙ ap not e) (is_root_end (vectors_of machines) near) refl
