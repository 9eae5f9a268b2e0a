-- Ports that reach each other, by the number of their group.
use Rattle.std.proofs.Common.{◌≡◌, ◌≤◌, ◌↔◌, inl, inr, ℕ, zero, suc, ◌+◌, ◌<◌, Bool, true, false, cond, Option, Some}
use Rattle.std.proofs.Common.{List, [], ◌∷◌, length, map, get_or, refl, sym, ap, subst, ◌∙◌, arith, nat_eq, slice_get}
use Rattle.std.proofs.Common.{unwrap_or}
use Rattle.std.proofs.lemmas.Bool.Decides.{nat_tests}
use Rattle.std.proofs.lemmas.List.{get_or-map, length-map}
use Rattle.std.proofs.lemmas.Option.{slice_get-get_or}
use Rattle.std.specs.List.{AllByRecursion, Contains}
use Rattle.pb_frame.proofs.Lists.{Some-injective, All-at, All-imply, eqb-refl, first-finds, first-numbered}
use Rattle.pb_frame.specs.Lists.{first, Rises}
use Rattle.pb_lan.proofs.Numbers.{numbered-exists, numbered-All}
use Rattle.pb_lan.specs.Numbering.{numbered}
use Rattle.pb_lan.specs.Plans.{IsSound, IsNumber, IsSoundCustomer}
use Rattle.pb_lan.specs.declared.plan.Plan.{Plan}
use Rattle.pb_lan.specs.declared.plan.CustomerPlan.{CustomerPlan}
use Rattle.pb_lan.specs.declared.shape.Shape.{Shape}
use Rattle.pb_cmd_survive.specs.Groups.{ports_from, ports_of, is_port_out, AreGroups, color_by, color_of, lead_of}
use Rattle.pb_cmd_survive.specs.Groups.{site_of}
use Rattle.pb_joins.specs.Joins.{mark_at}
use Rattle.pb_cmd_survive.specs.Reach.{CanReach, TellsJoined}
use Rattle.pb_cmd_survive.specs.declared.sites.Site.{Site}

-- the numbers are at least low and less than high
abbrev AreWithin : ℕ → ℕ → List ℕ → Type 0
AreWithin low high ports = AllByRecursion (λ m. (low ≤ m) × (m < high)) ports

within_more : (n count : ℕ) (ports : List ℕ) → AreWithin (n + 1) (n + 1 + count) ports
    → AreWithin n (n + suc count) ports
within_more n count ports a =
    All-imply (λ m. (n + 1 ≤ m) × (m < n + 1 + count)) (λ m. (n ≤ m) × (m < n + suc count))
    (λ m h. let low = h.0 in let high = h.1 in (omega (arith, low), omega (arith, high))) ports a

within_choice : (b : Bool) (n count : ℕ) (ports : List ℕ) → AreWithin n (n + suc count) ports
    → AreWithin n (n + suc count) (cond b (n ∷ ports) ports)
within_choice true n count ports a = ((omega arith, omega arith), a)
within_choice false n count ports a = a

-- the ports of a service are numbers of the plan's customer ports
ports_within : (service n : ℕ) (cs : List CustomerPlan) → AreWithin n (n + length cs) (ports_from service n cs)
ports_within service n [] = tt
ports_within service n (c ∷ cs) =
    within_choice (nat_eq c.service service) n (length cs) (ports_from service (n + 1) cs)
    (within_more n (length cs) (ports_from service (n + 1) cs) (ports_within service (n + 1) cs))

rise_choice : (b : Bool) (n count : ℕ) (ports : List ℕ) → AreWithin (n + 1) (n + 1 + count) ports → Rises ports
    → Rises (cond b (n ∷ ports) ports)
rise_choice true n count ports a r = (
  All-imply (λ m. (n + 1 ≤ m) × (m < n + 1 + count)) (λ m. n < m) (λ m h. let low = h.0 in omega (arith, low))
      ports a,
  r,
)
rise_choice false n count ports a r = r

ports_rise : (service n : ℕ) (cs : List CustomerPlan) → Rises (ports_from service n cs)
ports_rise service n [] = tt
ports_rise service n (c ∷ cs) =
    rise_choice (nat_eq c.service service) n (length cs) (ports_from service (n + 1) cs)
    (ports_within service (n + 1) cs) (ports_rise service (n + 1) cs)

-- each of them has its entry in the plan
port_entry : (plan : Plan) (service k p : ℕ) → slice_get (ports_of plan service) k ≡ Some p → (c : CustomerPlan)
    × (numbered plan.customers p ≡ Some c)
port_entry plan service k p e =
    let within = All-at (λ m. (1 ≤ m) × (m < 1 + length plan.customers)) (ports_of plan service) k p e
    (ports_within service 1 plan.customers) in
    numbered-exists plan.customers p (within.0, let high = within.1 in omega (arith, high))

-- the first of rising ports with a number comes no later than any that has it
least_choice : (b : Bool) (x port : ℕ) (o : Option ℕ) → x ≤ port → unwrap_or o 0 ≤ port
    → unwrap_or (cond b (Some x) o) 0 ≤ port
least_choice true x port o h g = h
least_choice false x port o h g = g

lead-least : (color : ℕ → ℕ) (port : ℕ) (ports : List ℕ) → Rises ports → (k : ℕ) → slice_get ports k ≡ Some port
    → lead_of color ports port ≤ port
lead-least color port [] rises k e = cc
lead-least color port (x ∷ xs) rises zero e =
    let one : x ≡ port = Some-injective e in
    let same : nat_eq (color x) (color port) ≡ true = ap (λ z. nat_eq (color z) (color port)) one
    ∙ eqb-refl (color port) in
    subst (λ (b : Bool). unwrap_or (cond b (Some x) (first (λ q. nat_eq (color q) (color port)) xs)) 0 ≤ port)
    (sym same) (omega (arith, one))
lead-least color port (x ∷ xs) rises (suc k) e =
    let less = All-at (λ m. x < m) xs k port e rises.0 in
    least_choice (nat_eq (color x) (color port)) x port (first (λ q. nat_eq (color q) (color port)) xs)
    (omega (arith, less)) (lead-least color port xs rises.1 k e)

-- lead_of returns one of the ports, with the same number
record IsLead (color : ℕ → ℕ) (ports : List ℕ) (port : ℕ) : Type 0 where
  place : ℕ
  there : slice_get ports place ≡ Some (lead_of color ports port)
  same : color (lead_of color ports port) ≡ color port

lead-there : (color : ℕ → ℕ) (ports : List ℕ) (k port : ℕ) → slice_get ports k ≡ Some port → IsLead color ports port
lead-there color ports k port e =
    let test : ℕ → Bool = λ q. nat_eq (color q) (color port) in
    let found = first-finds test ports k port e (eqb-refl (color port)) in
    let at = first-numbered test ports found.0 found.1 in
    let is : lead_of color ports port ≡ found.0 = ap (λ o. unwrap_or o 0) found.1 in
    record {
      place = at.0;
      there = at.1 ∙ ap (λ z. Some z) (sym is);
      same = ap color is ∙ (let h = at.2 in grind (arith, nat_tests, h));
    }

-- an element at an index is contained in the list
pub contained : {X : Type 0} (xs : List X) (k : ℕ) (x : X) → slice_get xs k ≡ Some x → Contains xs x
contained [] k x e = cc
contained (y ∷ ys) zero x e = (0, omega arith, Some-injective e)
contained (y ∷ ys) (suc k) x e = let there =
    contained ys k x e in (suc there.0, (let less = there.1 in omega (arith, less)), there.2)

-- each site that the list contains is that of a port
record IsMapped (f : ℕ → Site) (ports : List ℕ) (s : Site) : Type 0 where
  place : ℕ
  port : ℕ
  there : slice_get ports place ≡ Some port
  is : s ≡ f port

member-map : (f : ℕ → Site) (ports : List ℕ) (s : Site) → Contains (map f ports) s → IsMapped f ports s
member-map f ports s (k, less, is) =
    let within : k < length ports = omega (arith, less, length-map ports f) in
    record {
      place = k;
      port = get_or ports k 0;
      there = slice_get-get_or ports k 0 within;
      is = sym is ∙ get_or-map f ports k 0 s within;
    }

-- marks of a sound plan's bridges: they show which bridges are joined, and are below 32
pub record AreMarks (plan : Plan) (shape : Shape) (vid : ℕ) (marks : List ℕ) : Type 0 where
  pub sound : IsSound plan
  pub joined : TellsJoined plan shape vid marks
  pub below : (a : ℕ) → mark_at marks a < 32

customer_number : (plan : Plan) → IsSound plan → (p : ℕ) (c : CustomerPlan) → numbered plan.customers p ≡ Some c
    → IsNumber c.bridge 32
customer_number plan sound p c e =
    let s = numbered-All (IsSoundCustomer plan) plan.customers p c e sound.customers in
    (s.bridge.0, let up = s.bridge.1 in let most = sound.limits.bridges in omega (arith, up, most))

-- ports with one number reach each other
reach_by_color : (plan : Plan) (shape : Shape) (out : ℕ → Bool) (vid : ℕ) (marks : List ℕ)
    → AreMarks plan shape vid marks
    → (p q : ℕ) (c d : CustomerPlan) → numbered plan.customers p ≡ Some c → numbered plan.customers q ≡ Some d
    → color_of plan marks out p ≡ color_of plan marks out q → CanReach plan shape out vid p q
reach_by_color plan shape out vid marks m p q c d e f h =
    by (out c.bridge) (out d.bridge) refl refl
    (sym (ap (color_by marks out p) e) ∙ h ∙ ap (color_by marks out q) f)
  where
    by : (b g : Bool) → out c.bridge ≡ b → out d.bridge ≡ g
        → cond b (p + 32) (mark_at marks c.bridge) ≡ cond g (q + 32) (mark_at marks d.bridge)
        → CanReach plan shape out vid p q
    by true true u v same = inl (omega (arith, same))
    by true false u v same = let few = m.below d.bridge in absurd (omega (arith, same, few))
    by false true u v same = let few = m.below c.bridge in absurd (omega (arith, same, few))
    by false false u v same = inr record {
      here = c;
      there = d;
      planned_here = e;
      planned_there = f;
      up_here = u;
      up_there = v;
      joined = (m.joined c.bridge d.bridge (customer_number plan m.sound p c e)
          (customer_number plan m.sound q d f)).0 same;
    }

-- ports that reach each other have one number
color_by_reach : (plan : Plan) (shape : Shape) (out : ℕ → Bool) (vid : ℕ) (marks : List ℕ)
    → AreMarks plan shape vid marks
    → (p q : ℕ) → CanReach plan shape out vid p q → color_of plan marks out p ≡ color_of plan marks out q
color_by_reach plan shape out vid marks m p q (inl e) = ap (color_of plan marks out) e
color_by_reach plan shape out vid marks m p q (inr l) =
    at p l.here l.planned_here l.up_here
    ∙ (m.joined l.here.bridge l.there.bridge (customer_number plan m.sound p l.here l.planned_here)
    (customer_number plan m.sound q l.there l.planned_there)).1 l.joined
    ∙ sym (at q l.there l.planned_there l.up_there)
  where
    at : (r : ℕ) (c : CustomerPlan) → numbered plan.customers r ≡ Some c → out c.bridge ≡ false
        → color_of plan marks out r ≡ mark_at marks c.bridge
    at r c e up = ap (color_by marks out r) e ∙ ap (λ b. cond b (r + 32) (mark_at marks c.bridge)) up

map-back : (f : ℕ → Site) (ports : List ℕ) → ((p : ℕ) → (f p).port ≡ p) → map (λ s. s.port) (map f ports) ≡ ports
map-back f [] same = refl
map-back f (p ∷ ps) same = ap (λ z. z ∷ map (λ s. s.port) (map f ps)) (same p) ∙ ap (λ zs. p ∷ zs) (map-back f ps same)

-- two sites have one group if and only if their ports have one number
group_tells : (plan : Plan) (shape : Shape) (out : ℕ → Bool) (service vid : ℕ) (marks : List ℕ)
    → AreMarks plan shape vid marks
    → (j k p q : ℕ) → slice_get (ports_of plan service) j ≡ Some p → slice_get (ports_of plan service) k ≡ Some q
    → (lead_of (color_of plan marks out) (ports_of plan service) p ≡ lead_of (color_of plan marks out)
    (ports_of plan service) q) ↔ CanReach plan shape out vid p q
group_tells plan shape out service vid marks m j k p q e f = (to, from)
  where
    to : lead_of (color_of plan marks out) (ports_of plan service) p ≡ lead_of (color_of plan marks out)
        (ports_of plan service) q → CanReach plan shape out vid p q
    to h =
        let a = lead-there (color_of plan marks out) (ports_of plan service) j p e in
        let b = lead-there (color_of plan marks out) (ports_of plan service) k q f in
        let c = port_entry plan service j p e in
        let d = port_entry plan service k q f in
        reach_by_color plan shape out vid marks m p q c.0 d.0 c.1 d.1
        (sym a.same ∙ ap (color_of plan marks out) h ∙ b.same)

    from : CanReach plan shape out vid p q
        → lead_of (color_of plan marks out) (ports_of plan service) p ≡ lead_of (color_of plan marks out)
        (ports_of plan service) q
    from r = ap (λ z. unwrap_or (first (λ x. nat_eq (color_of plan marks out x) z) (ports_of plan service)) 0)
        (color_by_reach plan shape out vid marks m p q r)

-- the sites that sites_of makes are the groups of the service, for the contract of groups
pub groups_are : (plan : Plan) (shape : Shape) (out : ℕ → Bool) (service vid : ℕ) (marks : List ℕ)
    → AreMarks plan shape vid marks
    → AreGroups plan shape out service vid (map (site_of (color_of plan marks out) (is_port_out plan out)
    (ports_of plan service)) (ports_of plan service))
groups_are plan shape out service vid marks m = record {
  ports = map-back site (ports_of plan service) (λ p. refl);
  together = λ s t here there. both s t (at s here) (at t there);
  named = λ s here. let i = at s here in let l = lead-there (color_of plan marks out) (ports_of plan service)
      i.place i.port i.there in
      subst (λ z. Contains (ports_of plan service) z) (sym (ap (λ z. z.group) i.is))
      (contained (ports_of plan service) l.place
      (lead_of (color_of plan marks out) (ports_of plan service) i.port) l.there);
  least = λ s here. let i = at s here in
      subst (λ (z : Site). z.group ≤ z.port) (sym i.is)
      (lead-least (color_of plan marks out) i.port (ports_of plan service)
      (ports_rise service 1 plan.customers) i.place i.there);
  outs = λ s here. let i = at s here in
      subst (λ (z : Site). z.is_out ≡ is_port_out plan out z.port) (sym i.is) refl;
}
  where
    site : ℕ → Site
    site = site_of (color_of plan marks out) (is_port_out plan out) (ports_of plan service)

    at : (s : Site) → Contains (map site (ports_of plan service)) s → IsMapped site (ports_of plan service) s
    at s here = member-map site (ports_of plan service) s here

    both : (s t : Site) → IsMapped site (ports_of plan service) s → IsMapped site (ports_of plan service) t
        → (s.group ≡ t.group) ↔ CanReach plan shape out vid s.port t.port
    both s t i j =
        subst (λ (z : Site). (z.group ≡ t.group) ↔ CanReach plan shape out vid z.port t.port) (sym i.is)
        (subst (λ (z : Site). ((site i.port).group ≡ z.group) ↔ CanReach plan shape out vid i.port z.port)
        (sym j.is)
        (group_tells plan shape out service vid marks m i.place j.place i.port j.port i.there j.there))
