-- The local ports that links and customer ports use.
use Rattle.std.proofs.Common.{◌≡◌, ℕ, ◌+◌, ◌<◌, ◌≤◌, true, List, [], ◌∷◌, ◌++◌, zero, suc, length, get_or, map, take}
use Rattle.std.proofs.Common.{drop, Some, Result, Err, IfErr, Bor, refl, sym, ap, subst, ◌∙◌, append_assoc, arith}
use Rattle.std.proofs.Common.{inl, inr}
use Rattle.std.specs.Prelude.{◌⊎◌, slice_get, codes}
use Rattle.std.specs.List.{AllZip, flat_map}
use Rattle.std.proofs.lemmas.Grind.{flat_map-append}
use Rattle.std.proofs.lemmas.List.{append-nil, take_more, take_all, map-append, length-map, take-map}
use Rattle.pb_lan.specs.declared.limits.Limits.{Limits}
use Rattle.pb_lan.specs.declared.plan.LinkPlan.{LinkPlan}
use Rattle.pb_lan.specs.declared.plan.CustomerPlan.{CustomerPlan}
use Rattle.toml.specs.Data.{Members}
use Rattle.toml.specs.View.{table_view}
use Rattle.pb_service.specs.declared.fault.PlanFault.{PlanFault}
use Rattle.pb_service.specs.declared.fault.PlanFault.TheVariants.{Memory, LinkEnd}
use Rattle.pb_service.specs.declared.port_spec.PortSpec.{PortSpec}
use Rattle.pb_service.specs.declared.section.Section.{Section}
use Rattle.pb_service.specs.declared.section.Section.TheVariants.{Bridge, Link, Service, Port}
use Rattle.pb_service.specs.declared.used.LocalPort.{LocalPort}
use Rattle.pb_service.specs.Sections.{most_of}
use Rattle.pb_service.specs.Formats.{link_keys}
use Rattle.pb_service.specs.Told.{rows_of}
use Rattle.pb_service.specs.Tables.{IsLinkOf, IsCustomerOf, IsPortSpecOf, IsRead, IsReadPort}
use Rattle.pb_service.specs.UsedPorts.{is_used, port_of}
use Rattle.pb_service.specs.Refusals.{Refuses, RefusesStamp, RefusesPace, RefusesFiles, RefusesPort, no_clock}
use Rattle.pb_service.specs.Refusals.{HasTables, RefusesLink, CustomerLacks, link_ports}
use Rattle.pb_service.specs.Refusals.{customer_ports, names_of, network_limits, used_twice, no_bridge, no_service}
use Rattle.pb_service.specs.Refusals.{no_listed, doubled, no_time, vain_speed, two_families, no_memory}
use Rattle.pb_service.proofs.Refusing.{Table, passed_on}
use Rattle.pb_service.proofs.Allowed.{number_below}

-- a list of names is short if its array isn't too long
pub few_names : (document : Members) (section : Section) (names : List (Bor (List ℕ))) → HasTables document section
    → map (λ n. n.now) names ≡ names_of document section → length names ≤ most_of section
few_names document section names h e =
    let a : length names ≡ length (names_of document section) = sym (length-map names (λ n. n.now)) ∙ ap length e in
    let b : length (names_of document section) ≡ length (rows_of document section) =
    length-map (rows_of document section) _ in
    omega (arith, h.few)

split_at : {X : Type 0} (xs : List X) (i : ℕ) (x : X) → slice_get xs i ≡ Some x → xs ≡ take i xs ++ x ∷ drop (suc i) xs
split_at [] i x h = absurd cc
split_at (y ∷ xs) zero x h = let e : y ≡ x = cc in ap (λ z. z ∷ xs) e
split_at (y ∷ xs) (suc i) x h = ap (λ z. y ∷ z) (split_at xs i x h)

flat_split : {X Y : Type 0} (f : X → List Y) (xs : List X) (i : ℕ) (x : X) → slice_get xs i ≡ Some x
    → flat_map f xs ≡ flat_map f (take i xs) ++ (f x ++ flat_map f (drop (suc i) xs))
flat_split f xs i x h = ap (flat_map f) (split_at xs i x h) ∙ flat_map-append f (take i xs) (x ∷ drop (suc i) xs)

split_ports : {X : Type 0} (f g : X → List LocalPort) (xs ys : List X) (i : ℕ) (x : X) (used ports : List LocalPort)
    → slice_get xs i ≡ Some x → used ≡ flat_map f (take i xs) → f x ≡ ports
    → flat_map f xs ++ flat_map g ys ≡ used ++ (ports ++ (flat_map f (drop (suc i) xs) ++ flat_map g ys))
split_ports f g xs ys i x used ports at before here = rw (flat_split f xs i x at, ← before, here) (simp append_assoc)

split_last : {X : Type 0} (f g : X → List LocalPort) (xs ys : List X) (i : ℕ) (y : X) (used ports : List LocalPort)
    → slice_get ys i ≡ Some y → used ≡ flat_map f xs ++ flat_map g (take i ys) → g y ≡ ports
    → flat_map f xs ++ flat_map g ys ≡ used ++ (ports ++ flat_map g (drop (suc i) ys))
split_last f g xs ys i y used ports at before here = rw (flat_split g ys i y at, before, here) (simp append_assoc)

-- the local ports after one more table
pub flat_next : (f : Members → List LocalPort) (rows : List (Bor Table)) (i : ℕ) (d x : Bor Table)
    (first used new ports : List LocalPort) → i < length rows → x ≡ get_or rows i d
    → used ≡ first ++ flat_map f (map (λ t. table_view t.now) (take i rows)) → f (table_view x.now) ≡ ports
    → new ≡ used ++ ports
    → new ≡ first ++ flat_map f (map (λ t. table_view t.now) (take (i + 1) rows))
flat_next f rows i d x first used new ports h is before here e =
    let last : flat_map f (table_view (get_or rows i d).now ∷ []) ≡ ports =
    rw (← is) (append-nil (f (table_view x.now)) ∙ here) in
    rw (take_more rows i d h, map-append, flat_map-append, last) (e ∙ ap (λ z. z ++ ports) before ∙ simp append_assoc)

-- the local ports of all tables, once all are read
pub flat_all : (f : Members → List LocalPort) (document : Members) (section : Section) (rows : List (Bor Table))
    (n : ℕ) (used : List LocalPort) → length rows ≤ n
    → map (λ t. table_view t.now) rows ≡ rows_of document section
    → used ≡ flat_map f (map (λ t. table_view t.now) (take n rows)) → used ≡ flat_map f (rows_of document section)
flat_all f document section rows n used h e before = rw (take_all n rows h, e) at before

pub ends_of_link : (bridges services : List (List ℕ)) (row : Members) (l : LinkPlan) → IsLinkOf bridges services row l
    → link_ports bridges row ≡ port_of l.a ∷ port_of l.b ∷ []
ends_of_link bridges services row l told = rw (told.a_bridge, told.b_bridge, ← told.a.port, ← told.b.port) refl

pub port_of_customer : (bridges services : List (List ℕ)) (row : Members) (c : CustomerPlan)
    → IsCustomerOf bridges services row c
    → customer_ports bridges row ≡ record { bridge = c.bridge; port = c.port } ∷ []
port_of_customer bridges services row c told = rw (told.bridge, ← told.port) refl

-- the rows read first are the first rows of the document
pub first_rows : (document : Members) (section : Section) (rows : List (Bor Table)) (i : ℕ)
    → map (λ t. table_view t.now) rows ≡ rows_of document section
    → map (λ t. table_view t.now) (take i rows) ≡ take i (rows_of document section)
first_rows document section rows i e = sym (take-map (λ t. table_view t.now) i rows) ∙ ap (take i) e

-- a link with an end at a port in use refuses the document
pub ends_refused : (document row : Members) (i : ℕ) (services : List (List ℕ)) (l : LinkPlan) (used : List LocalPort)
    (e : PlanFault)
    → slice_get (rows_of document Link) i ≡ Some row → IsLinkOf (names_of document Bridge) services row l
    → used ≡ flat_map (link_ports (names_of document Bridge)) (take i (rows_of document Link))
    → (e ≡ Memory) ⊎ ((e ≡ LinkEnd)
    × ((is_used used (port_of l.a) ≡ true) ⊎ (is_used (used ++ port_of l.a ∷ []) (port_of l.b) ≡ true))) → Refuses
    document e
ends_refused document row i services l used e at told before (inl m) = rw m (no_memory document)
ends_refused document row i services l used e at told before (inr (t, twice)) =
    let rest = flat_map (link_ports (names_of document Bridge)) (drop (suc i) (rows_of document Link))
    ++ flat_map (customer_ports (names_of document Bridge)) (rows_of document Port) in
    let whole = split_ports (link_ports (names_of document Bridge)) (customer_ports (names_of document Bridge))
    (rows_of document Link) (rows_of document Port) i row used
    (port_of l.a ∷ port_of l.b ∷ []) at before (ends_of_link (names_of document Bridge) services row l told) in
    let low_a : 1 ≤ l.a.bridge = (number_below 1 (names_of document Bridge) _ l.a.bridge told.a_bridge).0 in
    let low_b : 1 ≤ l.b.bridge = (number_below 1 (names_of document Bridge) _ l.b.bridge told.b_bridge).0 in
    rw t (elim twice [
      | inl first ↦ used_twice document (port_of l.a)
          (record { before = used; behind = port_of l.b ∷ rest; stands = whole; again = first; bridge = low_a })
      | inr second ↦ used_twice document (port_of l.b)
          (record {
            before = used ++ port_of l.a ∷ [];
            behind = rest;
            stands = whole
                ∙ sym (append_assoc used (port_of l.a ∷ []) (port_of l.b ∷ rest));
            again = second;
            bridge = low_b;
          })
    ])

-- a customer port at a port in use refuses the document
pub port_refused : (document row : Members) (i : ℕ) (services : List (List ℕ)) (c : CustomerPlan)
    (used : List LocalPort) (e : PlanFault)
    → slice_get (rows_of document Port) i ≡ Some row → IsCustomerOf (names_of document Bridge) services row c
    → used ≡ flat_map (link_ports (names_of document Bridge)) (rows_of document Link)
    ++ flat_map (customer_ports (names_of document Bridge)) (take i (rows_of document Port))
    → (e ≡ Memory) ⊎ ((e ≡ LinkEnd) × (is_used used (record { bridge = c.bridge; port = c.port }) ≡ true))
    → Refuses document e
port_refused document row i services c used e at told before (inl m) = rw m (no_memory document)
port_refused document row i services c used e at told before (inr (t, twice)) =
    let p : LocalPort = record { bridge = c.bridge; port = c.port } in
    let rest = flat_map (customer_ports (names_of document Bridge)) (drop (suc i) (rows_of document Port)) in
    let whole = split_last (link_ports (names_of document Bridge)) (customer_ports (names_of document Bridge))
    (rows_of document Link) (rows_of document Port) i row used
    (p ∷ []) at before (port_of_customer (names_of document Bridge) services row c told) in
    let low : 1 ≤ c.bridge = (number_below 1 (names_of document Bridge) _ c.bridge told.bridge).0 in
    rw t (used_twice document p (record { before = used; behind = rest; stands = whole; again = twice; bridge = low }))

-- a link that names something unknown, or has a key of an end beside that for both ends, refuses the document
pub link_refused : (document row : Members) (i : ℕ) (e : PlanFault) → slice_get (rows_of document Link) i ≡ Some row
    → RefusesLink (names_of document Bridge) (names_of document Service) i row e → Refuses document e
link_refused document row i e at (inl (inl m)) = rw m (no_memory document)
link_refused document row i e at (inl (inr (key, d, t))) = rw t (doubled document i row key at d)
link_refused document row i e at (inr (inl (inl (t, none)))) =
    rw t (no_bridge document Link i row (codes "a") at refl none)
link_refused document row i e at (inr (inl (inr (t, none)))) =
    rw t (no_bridge document Link i row (codes "b") at refl none)
link_refused document row i e at (inr (inr (inl (name, t, h)))) =
    rw t (no_listed document i row (codes "services") name at refl h.stands h.unknown)
link_refused document row i e at (inr (inr (inr (inl (name, t, h))))) =
    rw t (no_listed document i row (codes "a_services") name at refl h.stands h.unknown)
link_refused document row i e at (inr (inr (inr (inr (name, t, h))))) =
    rw t (no_listed document i row (codes "b_services") name at refl h.stands h.unknown)

-- a customer port that names something unknown refuses the document
pub customer_refused : (document row : Members) (i : ℕ) (e : PlanFault) → slice_get (rows_of document Port) i ≡ Some row
    → CustomerLacks (names_of document Bridge) (names_of document Service) row e → Refuses document e
customer_refused document row i e at (inl m) = rw m (no_memory document)
customer_refused document row i e at (inr (inl (t, none))) =
    rw t (no_bridge document Port i row (codes "bridge") at refl none)
customer_refused document row i e at (inr (inr (t, none))) = rw t (no_service document i row at none)

-- the same for lists that equal the names of the document
pub link_passed : {X : Type 0} (document row : Members) (bridges services : List (List ℕ)) (i : ℕ)
    (r : Result X PlanFault) (e : PlanFault)
    → bridges ≡ names_of document Bridge → services ≡ names_of document Service
    → slice_get (rows_of document Link) i ≡ Some row
    → ((y : PlanFault) × (r ≡ Err y) × (y ≡ e)) → RefusesLink bridges services i row e → IfErr r (Refuses document)
link_passed document row bridges services i r e eb es at p h =
    passed_on (Refuses document) r e p (link_refused document row i e at (rw (← eb, ← es) h))

pub customer_passed : {X : Type 0} (document row : Members) (bridges services : List (List ℕ)) (i : ℕ)
    (r : Result X PlanFault) (e : PlanFault)
    → bridges ≡ names_of document Bridge → services ≡ names_of document Service
    → slice_get (rows_of document Port) i ≡ Some row
    → ((y : PlanFault) × (r ≡ Err y) × (y ≡ e)) → CustomerLacks bridges services row e → IfErr r (Refuses document)
customer_passed document row bridges services i r e eb es at p h =
    passed_on (Refuses document) r e p (customer_refused document row i e at (rw (← eb, ← es) h))

pub ends_passed : {X : Type 0} (document row : Members) (bridges services : List (List ℕ)) (i : ℕ) (l : LinkPlan)
    (used : List LocalPort) (r : Result X PlanFault) (e : PlanFault)
    → bridges ≡ names_of document Bridge → slice_get (rows_of document Link) i ≡ Some row
    → IsLinkOf bridges services row l
    → used ≡ flat_map (link_ports bridges) (take i (rows_of document Link)) → ((y : PlanFault) × (r ≡ Err y) × (y ≡ e))
    → (e ≡ Memory) ⊎ ((e ≡ LinkEnd)
    × ((is_used used (port_of l.a) ≡ true) ⊎ (is_used (used ++ port_of l.a ∷ []) (port_of l.b) ≡ true))) → IfErr r
    (Refuses document)
ends_passed document row bridges services i l used r e eb at told before p h =
    passed_on (Refuses document) r e p
    (ends_refused document row i services l used e at (rw (← eb) told) (rw (← eb) before) h)

pub port_passed : {X : Type 0} (document row : Members) (bridges services : List (List ℕ)) (i : ℕ) (c : CustomerPlan)
    (links used : List LocalPort) (r : Result X PlanFault) (e : PlanFault)
    → bridges ≡ names_of document Bridge → slice_get (rows_of document Port) i ≡ Some row
    → IsCustomerOf bridges services row c
    → links ≡ flat_map (link_ports (names_of document Bridge)) (rows_of document Link)
    → used ≡ links ++ flat_map (customer_ports bridges) (take i (rows_of document Port))
    → ((y : PlanFault) × (r ≡ Err y) × (y ≡ e))
    → (e ≡ Memory) ⊎ ((e ≡ LinkEnd) × (is_used used (record { bridge = c.bridge; port = c.port }) ≡ true))
    → IfErr r (Refuses document)
port_passed document row bridges services i c links used r e eb at told el before p h =
    passed_on (Refuses document) r e p
    (port_refused document row i services c used e at (rw (← eb) told) (rw (← el, ← eb) before) h)

-- records with the time of day and without a clock refuses the document
pace_refused : (document row : Members) (i : ℕ) (e : PlanFault) → slice_get (rows_of document Port) i ≡ Some row
    → RefusesPace (network_limits document) i row e → Refuses document e
pace_refused document row i e at (inl m) = rw m (no_memory document)
pace_refused document row i e at (inr (inl (t, lacks))) = rw t (no_clock document i row at lacks)
pace_refused document row i e at (inr (inr (t, vain))) = rw t (vain_speed document i row at vain)

stamp_refused : (document row : Members) (i : ℕ) (e : PlanFault) → slice_get (rows_of document Port) i ≡ Some row
    → RefusesStamp (network_limits document) i row e → Refuses document e
stamp_refused document row i e at (inl m) = rw m (no_memory document)
stamp_refused document row i e at (inr (t, lacks)) = rw t (no_time document i row at lacks)

files_refused : (document row : Members) (i : ℕ) (e : PlanFault) → slice_get (rows_of document Port) i ≡ Some row
    → RefusesFiles (network_limits document) i row e → Refuses document e
files_refused document row i e at (inl h) = pace_refused document row i e at h
files_refused document row i e at (inr h) = stamp_refused document row i e at h

port_spec_refused : (document row : Members) (i : ℕ) (e : PlanFault)
    → slice_get (rows_of document Port) i ≡ Some row
    → RefusesPort (network_limits document) i row e → Refuses document e
port_spec_refused document row i e at (inl h) = files_refused document row i e at h
port_spec_refused document row i e at (inr (inl m)) = rw m (no_memory document)
port_spec_refused document row i e at (inr (inr (t, apart))) = rw t (two_families document i row at apart)

pub port_spec_passed : {X : Type 0} (document row : Members) (limits : Limits) (i : ℕ) (r : Result X PlanFault)
    (e : PlanFault)
    → limits ≡ network_limits document → slice_get (rows_of document Port) i ≡ Some row
    → ((y : PlanFault) × (r ≡ Err y) × (y ≡ e)) → RefusesPort limits i row e
    → IfErr r (Refuses document)
port_spec_passed document row limits i r e el at p h =
    passed_on (Refuses document) r e p
    (port_spec_refused document row i e at (subst (λ (l : Limits). RefusesPort l i row e) el h))

pub specs_whole : (document : Members) (limits : Limits) (specs : List PortSpec) → limits ≡ network_limits document
    → AllZip (IsPortSpecOf limits) (rows_of document Port) specs
    → AllZip (IsPortSpecOf (network_limits document)) (rows_of document Port) specs
specs_whole document limits specs el z = subst (λ (l : Limits). AllZip (IsPortSpecOf l) (rows_of document Port) specs)
    el z

-- all links, and all customer ports, with the names of the document
pub links_whole : (document : Members) (bridges services : List (List ℕ)) (ls : List LinkPlan)
    → bridges ≡ names_of document Bridge → services ≡ names_of document Service
    → AllZip (IsRead (IsLinkOf bridges services) link_keys) (rows_of document Link) ls
    → AllZip (IsRead (IsLinkOf (names_of document Bridge) (names_of document Service)) link_keys)
    (rows_of document Link) ls
links_whole document bridges services ls eb es z = rw (← eb, ← es) z

pub customers_whole : (document : Members) (bridges services : List (List ℕ)) (cs : List CustomerPlan)
    → bridges ≡ names_of document Bridge → services ≡ names_of document Service
    → AllZip (IsReadPort (IsCustomerOf bridges services)) (rows_of document Port) cs
    → AllZip (IsReadPort (IsCustomerOf (names_of document Bridge) (names_of document Service)))
    (rows_of document Port) cs
customers_whole document bridges services cs eb es z = rw (← eb, ← es) z
