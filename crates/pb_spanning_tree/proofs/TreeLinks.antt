-- The links whose ends are both Forwarding, of bridges that have converged, are those of the vectors.
use Rattle.std.proofs.Common.{◌≡◌, ◌⊎◌, inl, inr, ℕ, List, Some, refl, sym, ap, ap₂, ◌∙◌, Bool, true, false, ◌&&◌}
use Rattle.std.proofs.Common.{◌||◌, not}
use Rattle.std.proofs.lemmas.Bool.{or_parts}
use Rattle.pb_lan.specs.Numbering.{numbered}
use Rattle.pb_lan.specs.Shapes.{is_forwarding, are_ends_forwarding}
use Rattle.pb_lan.specs.declared.plan.Plan.{Plan}
use Rattle.pb_lan.specs.declared.plan.End.{End}
use Rattle.pb_lan.specs.declared.plan.LinkPlan.{LinkPlan}
use Rattle.pb_rstp.specs.Ports.{Machine, is_designated, is_root}
use Rattle.pb_rstp.specs.Roles.{root_vector, came_from, HasRole}
use Rattle.pb_rstp.specs.Tree.{LeadsTo, shape_of}
use Rattle.pb_rstp.specs.declared.port.Port.{Port}
use Rattle.pb_rstp.specs.declared.role.Role.{Role}
use Rattle.pb_rstp.specs.declared.role.Role.TheVariants.{Disabled, Root, Designated, Alternate, Backup}
use Rattle.pb_rstp.specs.declared.vector.Vector.{Vector}
use Rattle.pb_rstp.proofs.SettledLaws.{role_up, active_role, other_is_root}
use Rattle.pb_rstp.proofs.SettledForest.{shape_state}
use Rattle.pb_spanning_tree.specs.TreeOf.{Disabling, is_down, is_root_end, is_link_by}
use Rattle.pb_spanning_tree.proofs.Facts.{Converged, HasEnd, Linked, linked, network, vectors_of}
use Rattle.pb_spanning_tree.proofs.TreeRoles.{root_end_is}

-- an enabled port is Root exactly if the root priority vector came in there
root_test : (id : ℕ) (root : Vector) (p : Port) (r : Role) → HasRole id root p r → p.port_enabled ≡ true
    → is_root r ≡ came_from root p
root_test id root p Disabled h up = cc
root_test id root p Root h up = sym h.1
root_test id root p Designated h up = sym h.1
root_test id root p Backup h up = sym h.1
root_test id root p Alternate h up = sym h.1

-- the end of an enabled port is the Root end exactly if the port is Root
end_test : (plan : Plan) (machines : List Machine) (disabled : Disabling) (e : End)
    → (h : HasEnd plan machines disabled e) → h.port.port_enabled ≡ true
    → is_root h.port.role ≡ is_root_end (vectors_of machines) e
end_test plan machines disabled e h up =
    root_test h.machine.id (root_vector h.machine.id h.machine.ports) h.port h.port.role h.is.stands.port.role up
    ∙ sym (root_end_is plan machines disabled e h)

-- a port that is not enabled is not Forwarding
not_up : (plan : Plan) (machines : List Machine) (disabled : Disabling) (e : End)
    → (h : HasEnd plan machines disabled e) → h.port.port_enabled ≡ false → is_forwarding h.port.state ≡ false
not_up plan machines disabled e h down = by_test (is_forwarding h.port.state) refl
  where
    by_test : (t : Bool) → is_forwarding h.port.state ≡ t → t ≡ false
    by_test false f = refl
    by_test true f =
        let up = role_up h.machine.id (root_vector h.machine.id h.machine.ports) h.port h.port.role
        h.is.stands.port.role (active_role h.port.role h.port.state h.is.stands.port.quiet f) in cc

-- a Forwarding port that is not Designated is Root
forwarding_root : (plan : Plan) (machines : List Machine) (disabled : Disabling) (e : End)
    → (h : HasEnd plan machines disabled e) → is_forwarding h.port.state ≡ true → is_designated h.port.role ≡ false
    → is_root h.port.role ≡ true
forwarding_root plan machines disabled e h f other =
    other_is_root h.port.role (active_role h.port.role h.port.state h.is.stands.port.quiet f) other

-- a conjunction is false if the first part is false whenever the second is true
and_false : (a b : Bool) → (a ≡ true → b ≡ true → ⊥) → (a && b) ≡ false
and_false true true h = absurd (h refl refl)
and_false true false h = refl
and_false false b h = refl

-- both ports of a link are Forwarding exactly if both ends are enabled and one is a Root end
both_is : (plan : Plan) (machines : List Machine) (disabled : Disabling) (near far : End)
    → (l : Linked plan machines disabled near far)
    → (is_forwarding l.here.port.state && is_forwarding l.there.port.state)
    ≡ ((not (is_down disabled near) && not (is_down disabled far))
    && (is_root_end (vectors_of machines) near || is_root_end (vectors_of machines) far))
both_is plan machines disabled near far l =
    by_up l.here.port.port_enabled l.there.port.port_enabled refl refl
    ∙ ap₂ (λ x y. (x && y) && (is_root_end (vectors_of machines) near || is_root_end (vectors_of machines) far))
    l.here.is.enabled l.there.is.enabled
  where
    roots : Bool
    roots = is_root_end (vectors_of machines) near || is_root_end (vectors_of machines) far

    by_leader : l.here.port.port_enabled ≡ true → l.there.port.port_enabled ≡ true
        → LeadsTo l.here.machine l.here.port l.there.port ⊎ LeadsTo l.there.machine l.there.port l.here.port
        → (is_root l.here.port.role || is_root l.there.port.role) ≡ false
        → is_forwarding l.here.port.state ≡ true → is_forwarding l.there.port.state ≡ true → ⊥
    by_leader up there_up (inl leads) none f g =
        let r = forwarding_root plan machines disabled far l.there g leads.there in
        let n = or_parts (is_root l.here.port.role) (is_root l.there.port.role) none in
        let n1 = n.1 in cc
    by_leader up there_up (inr leads) none f g =
        let r = forwarding_root plan machines disabled near l.here f leads.there in
        let n = or_parts (is_root l.here.port.role) (is_root l.there.port.role) none in
        let n0 = n.0 in cc

    by_root : l.here.port.port_enabled ≡ true → l.there.port.port_enabled ≡ true → (t : Bool)
        → (is_root l.here.port.role || is_root l.there.port.role) ≡ t
        → (is_forwarding l.here.port.state && is_forwarding l.there.port.state) ≡ t
    by_root up there_up true e = let f = l.forwarding up there_up e in ap₂ (λ x y. x && y) f.0 f.1
    by_root up there_up false e = and_false (is_forwarding l.here.port.state) (is_forwarding l.there.port.state)
        (by_leader up there_up (l.settled up there_up) e)

    by_up : (u v : Bool) → l.here.port.port_enabled ≡ u → l.there.port.port_enabled ≡ v
        → (is_forwarding l.here.port.state && is_forwarding l.there.port.state)
        ≡ ((l.here.port.port_enabled && l.there.port.port_enabled) && roots)
    by_up true true up there_up =
        by_root up there_up (is_root l.here.port.role || is_root l.there.port.role) refl
        ∙ ap₂ (λ x y. x || y) (end_test plan machines disabled near l.here up)
        (end_test plan machines disabled far l.there there_up)
        ∙ ap₂ (λ x y. (x && y) && roots) (sym up) (sym there_up)
    by_up false v down e =
        ap (λ x. x && is_forwarding l.there.port.state) (not_up plan machines disabled near l.here down)
        ∙ ap (λ x. (x && l.there.port.port_enabled) && roots) (sym down)
    by_up true false up down =
        and_false (is_forwarding l.here.port.state) (is_forwarding l.there.port.state) (λ f g.
        let n = not_up plan machines disabled far l.there down in cc)
        ∙ ap₂ (λ x y. (x && y) && roots) (sym up) (sym down)

-- both ends of a link are Forwarding exactly if the link is one of the vectors'
pub link_is : (plan : Plan) (machines : List Machine) (disabled : Disabling) → Converged plan machines disabled
    → (k : ℕ) (link : LinkPlan) → numbered plan.links k ≡ Some link
    → are_ends_forwarding (shape_of plan machines) link ≡ is_link_by disabled (vectors_of machines) link
link_is plan machines disabled c k link at =
    let l = linked plan machines disabled c k link at link.a link.b (inl (refl, refl)) in
    let net = network plan machines disabled c in
    let a = shape_state plan machines net k link link.a at (inl refl) l.here.machine l.here.port l.here.is.stands.at in
    let b = shape_state plan machines net k link link.b at (inr refl) l.there.machine l.there.port
    l.there.is.stands.at in
    ap₂ (λ x y. is_forwarding x && is_forwarding y) a b ∙ both_is plan machines disabled link.a link.b l
