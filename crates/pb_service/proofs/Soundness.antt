-- The plan of a document without repetitions is sound.
use Rattle.std.proofs.Common.{◌≡◌, ℕ, ◌≤◌, ◌%◌, List, [], ◌∷◌, ◌++◌, length, map, take, Option, Some, None}
use Rattle.std.proofs.Common.{IfSome, cond, true, false, refl, sym, ap, subst, ◌∙◌, arith, length-take}
use Rattle.std.specs.Prelude.{codes, nat_eq}
use Rattle.std.proofs.lemmas.List.{map-append, length-map}
use Rattle.std.proofs.lemmas.Slice.Zip.{AllZip-long}
use Rattle.std.specs.List.{AllByRecursion, AllZip, IsDistinct, flat_map}
use Rattle.pb_frame.specs.Admission.{same}
use Rattle.pb_frame.proofs.Lists.{All-flat_map}
use Rattle.pb_lan.specs.Ports.{ends_of, all_ends}
use Rattle.pb_lan.specs.Plans.{IsNumber, IsSoundBridge, IsSoundEnd, IsSoundCustomer, HasDistinctNames, IsWithinLimits}
use Rattle.pb_lan.specs.Plans.{IsSound, default_ageing, is_same_port, used_ports}
use Rattle.pb_frame.specs.Lists.{Rises}
use Rattle.pb_lan.specs.declared.plan.Plan.{Plan}
use Rattle.pb_lan.specs.declared.plan.BridgePlan.{BridgePlan}
use Rattle.pb_lan.specs.declared.plan.End.{End}
use Rattle.pb_lan.specs.declared.plan.LinkPlan.{LinkPlan}
use Rattle.pb_lan.specs.declared.plan.ServicePlan.{ServicePlan}
use Rattle.pb_lan.specs.declared.plan.CustomerPlan.{CustomerPlan}
use Rattle.toml.specs.Data.{Data, Members, get_member}
use Rattle.pb_service.specs.declared.port_spec.PortSpec.{PortSpec}
use Rattle.pb_service.specs.declared.rule.Rule.TheVariants.{Number, PortPriority}
use Rattle.pb_service.specs.declared.section.Section.{Section}
use Rattle.pb_service.specs.declared.used.LocalPort.{LocalPort}
use Rattle.pb_service.specs.declared.section.Section.TheVariants.{Bridge, Link, Service, Port}
use Rattle.pb_service.specs.Keys.{with_default, without_default, IsTaken}
use Rattle.pb_service.specs.Formats.{bridge_keys, link_keys, service_keys}
use Rattle.pb_service.specs.Told.{rows_of, items_told, has_key}
use Rattle.pb_service.specs.Tables.{text_at, services_told, key_for, EndNames, a_names, b_names, IsBridgeOf}
use Rattle.pb_service.specs.Tables.{IsServiceOf, IsEndOf, IsLinkOf, IsCustomerOf, IsRead, IsReadPort}
use Rattle.pb_service.specs.Refusals.{names_of, link_ports, customer_ports, ports_told}
use Rattle.pb_service.specs.UsedPorts.{AreUsedOnce}
use Rattle.pb_service.specs.PlanFiles.{IsPlanOf}
use Rattle.pb_service.proofs.Acceptance.{accepted_address}
use Rattle.pb_service.proofs.Stations.{one_group}
use Rattle.pb_service.proofs.Ends.{ends_of_link, port_of_customer}
use Rattle.pb_service.proofs.Allowed.{defaulted, unlimited, needed, bridge_priority, port_priority, losses}
use Rattle.pb_service.proofs.Allowed.{listed_numbers, named_number}

-- names, addresses, VIDs and local ports are distinct
pub record RepeatsNothing (document : Members) (plan : Plan) : Type 0 where
  pub bridge_names : IsDistinct same (names_of document Bridge)
  pub link_names : IsDistinct same (names_of document Link)
  pub service_names : IsDistinct same (names_of document Service)
  pub port_names : IsDistinct same (names_of document Port)
  pub addresses : IsDistinct same (map (λ b. b.address.0) plan.bridges)
  pub vids : IsDistinct nat_eq (map (λ s. s.vid) plan.services)
  pub ports : AreUsedOnce (ports_told document)

zip_each : {A B : Type 0} (R : A → B → Type 0) (P : B → Type 0) (xs : List A) (ys : List B)
    → ((x : A) (y : B) → R x y → P y) → AllZip R xs ys → AllByRecursion P ys
zip_each R P [] [] f z = tt
zip_each R P [] (y ∷ ys) f z = absurd z
zip_each R P (x ∷ xs) [] f z = absurd z
zip_each R P (x ∷ xs) (y ∷ ys) f z = (f x y z.0, zip_each R P xs ys f z.1)

-- if each thing has the same attribute as its table, the lists of attributes are the same
zip_same : {A B C : Type 0} (R : A → B → Type 0) (f : A → C) (g : B → C) (xs : List A) (ys : List B)
    → ((x : A) (y : B) → R x y → g y ≡ f x) → AllZip R xs ys → map g ys ≡ map f xs
zip_same R f g [] [] h z = refl
zip_same R f g [] (y ∷ ys) h z = absurd z
zip_same R f g (x ∷ xs) [] h z = absurd z
zip_same R f g (x ∷ xs) (y ∷ ys) h z = ap (λ c. c ∷ map g ys) (h x y z.0)
    ∙ ap (λ cs. f x ∷ cs) (zip_same R f g xs ys h z.1)

zip_names : {X : Type 0} (R : Members → X → Type 0) (name : X → List ℕ) (document : Members) (section : Section)
    (xs : List X) → ((row : Members) (x : X) → R row x → name x ≡ text_at row (codes "name"))
    → AllZip R (rows_of document section) xs → IsDistinct same (names_of document section)
    → IsDistinct same (map name xs)
zip_names R name document section xs h z d = subst (IsDistinct same)
    (sym (zip_same R (λ row. text_at row (codes "name")) name (rows_of document section) xs h z)) d

-- there are as many names of tables as things
zip_count : {X : Type 0} (R : Members → X → Type 0) (document : Members) (section : Section) (xs : List X)
    → AllZip R (rows_of document section) xs → length (names_of document section) ≡ length xs
zip_count R document section xs z = length-map (rows_of document section) (λ r. text_at r (codes "name"))
    ∙ sym (AllZip-long R (rows_of document section) xs z)

bridge_sound : (row : Members) (b : BridgePlan) → IsRead IsBridgeOf bridge_keys row b → IsSoundBridge b
bridge_sound row b r =
    let address = accepted_address row r.accepted in
    record {
      address = one_group _ _ _ r.told.address address.1 ∙ address.2;
      priority = subst (λ n. (n % 4096 ≡ 0) × (n ≤ 61440)) (sym r.told.priority)
          (bridge_priority (codes "priority") _ r.accepted.taken.1.1.0);
      queue = subst (λ n. IsNumber n 4096) (sym r.told.queue)
          (defaulted (codes "queue") 1 4096 64 4096 _ (omega arith) (omega arith) (omega arith)
          r.accepted.taken.1.1.1.0);
    }

services_sound : (count : ℕ) (known : List (List ℕ)) (value : Option Data) → length known ≡ count
    → IfSome (services_told known value) (λ services. Rises services × AllByRecursion (λ s. IsNumber s count) services)
services_sound count known None e = tt
services_sound count known (Some d) e = listed_numbers count (take 64 known) (items_told (Some d))
    (omega (arith, length-take 64 known))

-- the cost of an end is accepted, at whichever of the two keys it is
cost_taken : (row : Members) (both own : List ℕ)
    → IsTaken (with_default own (Number 1 200000000)) (get_member own row)
    → IsTaken (with_default both (Number 1 200000000)) (get_member both row)
    → IsTaken (with_default (key_for row both own) (Number 1 200000000)) (get_member (key_for row both own) row)
cost_taken row both own mine shared =
    elim (has_key row both)
    as (λ b. IsTaken (with_default (cond b both own) (Number 1 200000000)) (get_member (cond b both own) row))
    [ true ↦ shared | false ↦ mine ]

end_sound : (plan : Plan) (known : List (List ℕ)) (row : Members) (k : EndNames) (e : End)
    → length known ≡ length plan.services → IsEndOf known row k e → IsNumber e.bridge (length plan.bridges)
    → IsTaken (without_default k.port (Number 1 16)) (get_member k.port row)
    → IsTaken (with_default k.cost (Number 1 200000000)) (get_member k.cost row)
    → IsTaken (with_default (codes "cost") (Number 1 200000000)) (get_member (codes "cost") row)
    → IsTaken (with_default k.priority PortPriority) (get_member k.priority row) → IsSoundEnd plan e
end_sound plan known row k e count told bridge port cost shared priority = record {
  bridge = bridge;
  port = subst (λ n. IsNumber n 16) (sym told.port) (needed k.port 1 16 0 16 _ (omega arith) port);
  cost = subst (λ n. IsNumber n 200000000) (sym told.cost)
      (defaulted (key_for row (codes "cost") k.cost) 1 200000000 20000 200000000 _ (omega arith) (omega arith)
      (omega arith) (cost_taken row (codes "cost") k.cost cost shared));
  priority = subst (λ n. (n % 16 ≡ 0) × (n ≤ 240)) (sym told.priority) (port_priority k.priority _ priority);
  services = subst (λ (s : Option (List ℕ)). IfSome s
      (λ services. Rises services × AllByRecursion (λ n. IsNumber n (length plan.services)) services))
      (sym told.services)
      (services_sound (length plan.services) known _ count);
}

ends_sound : (plan : Plan) (bridges services : List (List ℕ)) (row : Members) (l : LinkPlan)
    → length bridges ≡ length plan.bridges → length services ≡ length plan.services
    → IsRead (IsLinkOf bridges services) link_keys row l → AllByRecursion (IsSoundEnd plan) (ends_of l)
ends_sound plan bridges services row l eb es r =
    let keys = r.accepted.taken in
    let shared = keys.1.1.1.1.1.1.1.1.1.1.1.1.1.1.1.0 in (
      end_sound plan services row a_names l.a es r.told.a
          (named_number (length plan.bridges) bridges _ l.a.bridge eb r.told.a_bridge) keys.1.1.0 keys.1.1.1.1.1.0
          shared keys.1.1.1.1.1.1.1.0,
      (
        end_sound plan services row b_names l.b es r.told.b
            (named_number (length plan.bridges) bridges _ l.b.bridge eb r.told.b_bridge) keys.1.1.1.1.0
            keys.1.1.1.1.1.1.0 shared keys.1.1.1.1.1.1.1.1.0,
        tt,
      ),
    )

losses_sound : (bridges services : List (List ℕ)) (row : Members) (l : LinkPlan)
    → IsRead (IsLinkOf bridges services) link_keys row l → Rises l.lost_ab × Rises l.lost_ba
losses_sound bridges services row l r =
    let keys = r.accepted.taken.1.1.1.1.1.1.1.1.1.1.1.1.1 in (
      subst Rises (sym r.told.lost_ab) (losses (codes "lost_ab") _ keys.0),
      subst Rises (sym r.told.lost_ba)
          (losses (codes "lost_ba") _ keys.1.0),
    )

vid_sound : (row : Members) (s : ServicePlan) → IsRead IsServiceOf service_keys row s → IsNumber s.vid 4094
vid_sound row s r = subst (λ n. IsNumber n 4094) (sym r.told.vid)
    (needed (codes "vid") 1 4094 0 4094 _ (omega arith) r.accepted.taken.1.0)

customer_sound : (plan : Plan) (bridges services : List (List ℕ)) (row : Members) (c : CustomerPlan)
    → length bridges ≡ length plan.bridges → length services ≡ length plan.services
    → IsReadPort (IsCustomerOf bridges services) row c → IsSoundCustomer plan c
customer_sound plan bridges services row c eb es r = record {
  bridge = named_number (length plan.bridges) bridges _ c.bridge eb r.told.bridge;
  port = subst (λ n. IsNumber n 16) (sym r.told.port)
      (needed (codes "port") 1 16 0 16 _ (omega arith) r.accepted.taken.1.1.0);
  service = named_number (length plan.services) services _ c.service es r.told.service;
  priority = subst (λ n. n ≤ 7) (sym r.told.pcp) (defaulted (codes "pcp") 0 7 0 7 _ (omega arith) (omega arith)
      (omega arith) r.accepted.taken.1.1.1.1.0).1;
  queue = subst (λ n. IsNumber n 4096) (sym r.told.queue)
      (defaulted (codes "queue") 1 4096 64 4096 _ (omega arith) (omega arith) (omega arith)
      r.accepted.taken.1.1.1.1.1.0);
}

limits_sound : (document : Members) (plan : Plan) (specs : List PortSpec) → IsPlanOf document plan specs
    → IsWithinLimits plan
limits_sound document plan specs p =
    let keys = p.network.keys.taken in
    record {
      bridges = omega (arith, p.bridge_tables.few, AllZip-long _ _ _ p.bridges);
      links = omega (arith, p.link_tables.few, AllZip-long _ _ _ p.links);
      services = omega (arith, p.service_tables.few, AllZip-long _ _ _ p.services);
      customers = omega (arith, p.port_tables.few, AllZip-long _ _ _ p.customers);
      ring = subst (λ n. IsNumber n 4096) (sym p.network.ring)
          (defaulted (codes "ring") 1 4096 64 4096 _ (omega arith) (omega arith) (omega arith) keys.1.1.0);
      steps = subst (λ n. IsNumber n 18446744073709551615) (sym p.network.steps)
          (unlimited (codes "steps") 1 1000000 18446744073709551615 _ (omega arith) (omega arith) keys.1.1.1.0);
      ageing = subst (λ n. (10 ≤ n) × (n ≤ 1000000)) (sym p.network.ageing)
          (defaulted (codes "ageing") 10 1000000 default_ageing 1000000 _ (omega arith) (omega arith) (omega arith)
          keys.1.0);
    }

-- the local ports of links, and those of customer ports, are the ones that their tables give
link_ports_told : (bridges services : List (List ℕ)) (rows : List Members) (ls : List LinkPlan)
    → AllZip (IsRead (IsLinkOf bridges services) link_keys) rows ls
    → map {B = ℕ × ℕ} (λ p. (p.bridge, p.port)) (flat_map (link_ports bridges) rows) ≡ map {B = ℕ × ℕ}
    (λ e. (e.bridge, e.port)) (flat_map ends_of ls)
link_ports_told bridges services [] [] z = refl
link_ports_told bridges services [] (l ∷ ls) z = absurd z
link_ports_told bridges services (row ∷ rows) [] z = absurd z
link_ports_told bridges services (row ∷ rows) (l ∷ ls) z =
    ap (λ (ports : List LocalPort). map {B = ℕ × ℕ} (λ p. (p.bridge, p.port))
    (ports ++ flat_map (link_ports bridges) rows)) (ends_of_link bridges services row l z.0.told)
    ∙ ap (λ (rest : List (ℕ × ℕ)). (l.a.bridge, l.a.port) ∷ (l.b.bridge, l.b.port) ∷ rest)
    (link_ports_told bridges services rows ls z.1)

customer_ports_told : (bridges services : List (List ℕ)) (rows : List Members) (cs : List CustomerPlan)
    → AllZip (IsReadPort (IsCustomerOf bridges services)) rows cs
    → map {B = ℕ × ℕ} (λ p. (p.bridge, p.port)) (flat_map (customer_ports bridges) rows) ≡ map {B = ℕ × ℕ}
    (λ c. (c.bridge, c.port)) cs
customer_ports_told bridges services [] [] z = refl
customer_ports_told bridges services [] (c ∷ cs) z = absurd z
customer_ports_told bridges services (row ∷ rows) [] z = absurd z
customer_ports_told bridges services (row ∷ rows) (c ∷ cs) z =
    ap (λ (ports : List LocalPort). map {B = ℕ × ℕ} (λ p. (p.bridge, p.port))
    (ports ++ flat_map (customer_ports bridges) rows)) (port_of_customer bridges services row c z.0.told)
    ∙ ap (λ (rest : List (ℕ × ℕ)). (c.bridge, c.port) ∷ rest) (customer_ports_told bridges services rows cs z.1)

ports_used : (document : Members) (plan : Plan) (specs : List PortSpec) → IsPlanOf document plan specs
    → map {B = ℕ × ℕ} (λ p. (p.bridge, p.port)) (ports_told document) ≡ used_ports plan
ports_used document plan specs p =
    let bridges = names_of document Bridge in
    let services = names_of document Service in
    let ports = flat_map (customer_ports bridges) (rows_of document Port) in
    map-append {B = ℕ × ℕ} (λ (q : LocalPort). (q.bridge, q.port))
    (flat_map (link_ports bridges) (rows_of document Link)) ports
    ∙ ap (λ (z : List (ℕ × ℕ)). z ++ map {B = ℕ × ℕ} (λ q. (q.bridge, q.port)) ports)
    (link_ports_told bridges services (rows_of document Link) plan.links p.links)
    ∙ ap (λ (z : List (ℕ × ℕ)). map {B = ℕ × ℕ} (λ e. (e.bridge, e.port)) (all_ends plan) ++ z)
    (customer_ports_told bridges services (rows_of document Port) plan.customers p.customers)

names_sound : (document : Members) (plan : Plan) (specs : List PortSpec) → IsPlanOf document plan specs
    → RepeatsNothing document plan → HasDistinctNames plan
names_sound document plan specs p r = record {
  bridges = zip_names _ (λ b. b.name) document Bridge plan.bridges (λ row b h. h.told.name) p.bridges r.bridge_names;
  links = zip_names _ (λ l. l.name) document Link plan.links (λ row l h. h.told.name) p.links r.link_names;
  services = zip_names _ (λ s. s.name) document Service plan.services (λ row s h. h.told.name) p.services
      r.service_names;
  customers = zip_names _ (λ c. c.name) document Port plan.customers (λ row c h. h.told.name) p.customers r.port_names;
}

pub plan_sound : (document : Members) (plan : Plan) (specs : List PortSpec) → IsPlanOf document plan specs
    → RepeatsNothing document plan → IsSound plan
plan_sound document plan specs p r =
    let eb = zip_count _ document Bridge plan.bridges p.bridges in
    let es = zip_count _ document Service plan.services p.services in
    let bridges = names_of document Bridge in
    let services = names_of document Service in
    record {
      limits = limits_sound document plan specs p;
      names = names_sound document plan specs p r;
      bridges = zip_each _ IsSoundBridge _ _ bridge_sound p.bridges;
      addresses = r.addresses;
      ends = All-flat_map (IsSoundEnd plan) ends_of plan.links
          (zip_each _ (λ l. AllByRecursion (IsSoundEnd plan) (ends_of l)) _ _
          (λ row l h. ends_sound plan bridges services row l eb es h) p.links);
      losses = zip_each _ (λ l. Rises l.lost_ab × Rises l.lost_ba) _ _ (losses_sound bridges services) p.links;
      vids = zip_each _ (λ s. IsNumber s.vid 4094) _ _ vid_sound p.services;
      distinct_vids = r.vids;
      customers = zip_each _ (IsSoundCustomer plan) _ _
          (λ row c h. customer_sound plan bridges services row c eb es h) p.customers;
      ports = subst (IsDistinct is_same_port) (ports_used document plan specs p) r.ports;
    }
