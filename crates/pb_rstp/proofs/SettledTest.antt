-- The test whether a network is settled is right.
use Rattle.std.proofs.Common.{◌≡◌, ◌⊎◌, List, [], ◌∷◌, Some, None, refl, sym, ap, ap₂, ◌∙◌, Bool, true, false, ◌&&◌}
use Rattle.std.proofs.Common.{◌||◌, not, inl, inr, subst}
use Rattle.std.specs.declared.option.Option.{Option}
use Rattle.std.specs.Option.{option_map, option_and_then}
use Rattle.std.specs.List.{list_all, AllByRecursion}
use Rattle.std.proofs.lemmas.Bool.{or_right, not-true, and_parts}
use Rattle.pb_frame.proofs.Lists.{same-one, same-self}
use Rattle.pb_frame.specs.Admission.{same}
use Rattle.pb_lan.specs.declared.plan.Plan.{Plan}
use Rattle.pb_lan.specs.Numbering.{numbered}
use Rattle.pb_lan.specs.declared.plan.End.{End}
use Rattle.pb_lan.specs.declared.plan.LinkPlan.{LinkPlan}
use Rattle.pb_rstp.specs.Ports.{Machine, is_designated, port_of}
use Rattle.pb_rstp.specs.declared.port.Info.{Info}
use Rattle.pb_rstp.specs.declared.port.Port.{Port}
use Rattle.pb_rstp.specs.Messages.{known}
use Rattle.pb_rstp.specs.Tree.{offered, StandsAt, LeadsTo, IsSettledLink, Place, place_in, place_at, stores_test}
use Rattle.pb_rstp.specs.Tree.{leads_test, is_settled_between, is_settled, TestTells}

-- if the test of one end passes, that end leads to the other
leads : (m : Machine) (p q : Port) → leads_test m p q ≡ true → LeadsTo m p q
leads m p q e =
    let outer = and_parts (is_designated p.role && not (is_designated q.role)) (stores_test q.info (offered m p)) e in
    let inner = and_parts (is_designated p.role) (not (is_designated q.role)) outer.0 in
    record { here = inner.0; there = not-true (is_designated q.role) inner.1; stores = by_info q.info refl outer.1 }
  where
    by_info : (o : Option Info) → q.info ≡ o → stores_test o (offered m p) ≡ true
        → (info : Info) × (q.info ≡ Some info) × (known info ≡ offered m p)
    by_info None stored t = cc
    by_info (Some info) stored t = (info, stored, same-one (known info) (offered m p) t)

-- if the test of a link with enabled ends passes, one end leads to the other
one_leads : (m n : Machine) (p q : Port) → p.port_enabled ≡ true → q.port_enabled ≡ true
    → (not (p.port_enabled && q.port_enabled) || leads_test m p q || leads_test n q p) ≡ true
    → LeadsTo m p q ⊎ LeadsTo n q p
one_leads m n p q p_up q_up e = by_test (leads_test m p q) (leads_test n q p) refl refl (sym both ∙ e)
  where
    both : (not (p.port_enabled && q.port_enabled) || leads_test m p q || leads_test n q p)
        ≡ (leads_test m p q || leads_test n q p)
    both = ap₂ (λ a b. not (a && b) || leads_test m p q || leads_test n q p) p_up q_up

    by_test : (s t : Bool) → leads_test m p q ≡ s → leads_test n q p ≡ t → (s || t) ≡ true
        → LeadsTo m p q ⊎ LeadsTo n q p
    by_test true t es et o = inl (leads m p q es)
    by_test false true es et o = inr (leads n q p et)
    by_test false false es et o = cc

-- the bridge and the port at a link end are found
pub placed_at : (machines : List Machine) (e : End) (m : Machine) (p : Port) → StandsAt machines e m p
    → place_at machines e ≡ Some (record { machine = m; port = p })
placed_at machines e m p s =
    ap (λ o. option_and_then (place_in e.port) o) s.machine
    ∙ ap (λ o. option_map (λ (q : Port). let place : Place = record { machine = m; port = q } in place) o) s.port

-- a link that passes the test is settled
settled_link : (machines : List Machine) (link : LinkPlan)
    → is_settled_between (place_at machines link.a) (place_at machines link.b) ≡ true → IsSettledLink machines link
settled_link machines link e m n p q here there p_up q_up =
    one_leads m n p q p_up q_up
    (sym (ap₂ is_settled_between (placed_at machines link.a m p here) (placed_at machines link.b n q there)) ∙ e)

-- if the test of a network passes, each link is settled
pub settled_links : (plan : Plan) (machines : List Machine) → is_settled plan machines ≡ true
    → AllByRecursion (IsSettledLink machines) plan.links
settled_links plan machines e = go plan.links e
  where
    go : (links : List LinkPlan)
        → list_all (λ link. is_settled_between (place_at machines link.a) (place_at machines link.b)) links ≡ true
        → AllByRecursion (IsSettledLink machines) links
    go [] e = tt
    go (l ∷ ls) e =
        let h = and_parts (is_settled_between (place_at machines l.a) (place_at machines l.b))
        (list_all (λ link. is_settled_between (place_at machines link.a) (place_at machines link.b)) ls) e in
        (settled_link machines l h.0, go ls h.1)

-- The other direction.

-- if one end leads to the other, its test passes
leads_passes : (m : Machine) (p q : Port) → LeadsTo m p q → leads_test m p q ≡ true
leads_passes m p q leads =
    let stores : stores_test q.info (offered m p) ≡ true =
    ap (λ o. stores_test o (offered m p)) leads.stores.1
    ∙ ap (same (known leads.stores.0)) (sym leads.stores.2) ∙ same-self (known leads.stores.0) in
    ap₂ (λ a b. a && b) (ap₂ (λ a b. a && not b) leads.here leads.there) stores

-- the bridge and the port that are found are those at the link end
pub place_stands : (machines : List Machine) (e : End) (a : Place) → place_at machines e ≡ Some a
    → StandsAt machines e a.machine a.port
place_stands machines e a is = by_machine (numbered machines e.bridge) refl is
  where
    by_port : (m : Machine) → numbered machines e.bridge ≡ Some m → (o : Option Port) → port_of m.ports e.port ≡ o
        → option_map (λ q. let place : Place = record { machine = m; port = q } in place) o ≡ Some a
        → StandsAt machines e a.machine a.port
    by_port m at None port is = cc
    by_port m at (Some p) port is =
        let place : Place = record { machine = m; port = p } in
        let same : place ≡ a = cc in
        let P : Place → Type 0 = λ b. StandsAt machines e b.machine b.port in
        subst P same (record { machine = at; port = port })

    by_machine : (o : Option Machine) → numbered machines e.bridge ≡ o → option_and_then (place_in e.port) o ≡ Some a
        → StandsAt machines e a.machine a.port
    by_machine None at is = cc
    by_machine (Some m) at is = by_port m at (port_of m.ports e.port) refl is

-- a settled link passes the test
link_passes : (machines : List Machine) (link : LinkPlan) → IsSettledLink machines link
    → is_settled_between (place_at machines link.a) (place_at machines link.b) ≡ true
link_passes machines link settled = by_places (place_at machines link.a) (place_at machines link.b) refl refl
  where
    by_leads : (m n : Machine) (p q : Port) (u : Bool) → LeadsTo m p q ⊎ LeadsTo n q p
        → (u || leads_test m p q || leads_test n q p) ≡ true
    by_leads m n p q true h = refl
    by_leads m n p q false (inl h) = ap (λ t. t || leads_test n q p) (leads_passes m p q h)
    by_leads m n p q false (inr h) = or_right (leads_test m p q) (leads_test n q p) (leads_passes n q p h)

    by_enabled : (m n : Machine) (p q : Port) (u v : Bool) → p.port_enabled ≡ u → q.port_enabled ≡ v
        → StandsAt machines link.a m p
        → StandsAt machines link.b n q
        → (not (u && v) || leads_test m p q || leads_test n q p) ≡ true
    by_enabled m n p q true true eu ev here there = by_leads m n p q false (settled m n p q here there eu ev)
    by_enabled m n p q _ _ eu ev here there = refl

    by_places : (a b : Option Place) → place_at machines link.a ≡ a → place_at machines link.b ≡ b
        → is_settled_between a b ≡ true
    by_places (Some a) (Some b) ea eb =
        by_enabled a.machine b.machine a.port b.port a.port.port_enabled b.port.port_enabled refl refl
        (place_stands machines link.a a ea)
        (place_stands machines link.b b eb)
    by_places _ _ ea eb = refl

-- if each link is settled, the test of the network passes
pub links_pass : (plan : Plan) (machines : List Machine) → AllByRecursion (IsSettledLink machines) plan.links
    → is_settled plan machines ≡ true
links_pass plan machines settled = go plan.links settled
  where
    go : (links : List LinkPlan) → AllByRecursion (IsSettledLink machines) links
        → list_all (λ link. is_settled_between (place_at machines link.a) (place_at machines link.b)) links ≡ true
    go [] h = refl
    go (l ∷ ls) h = ap₂ (λ a b. a && b) (link_passes machines l h.0) (go ls h.1)

-- the test passes if and only if each link has converged
pub test_tells : TestTells
test_tells plan machines = (settled_links plan machines, links_pass plan machines)
