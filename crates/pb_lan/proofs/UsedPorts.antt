-- Local ports in use, link by link. For the loop of the check of plans.
use Rattle.std.proofs.Common.{◌≡◌, ◌≤◌, ◌<◌, ℕ, Bool, false, List, [], ◌∷◌, map, ◌||◌, ◌↔◌, length, get_or, arith}
use Rattle.std.proofs.Common.{refl}
use Rattle.std.specs.List.{list_any, IsDistinct}
use Rattle.pb_lan.proofs.Distinctness.{none_is, none_tested, list_any-map, after_first, after_first-cons}
use Rattle.pb_lan.specs.Plans.{is_same_port, ports_in}
use Rattle.pb_lan.specs.UsedPorts.{HasFreeEnds}
use Rattle.pb_lan.specs.declared.plan.LinkPlan.{LinkPlan}
use Rattle.pb_lan.specs.declared.plan.CustomerPlan.{CustomerPlan}

-- a test of the ports in use is a test of links or of customer ports
pub list_any-ports_in : (p : (ℕ × ℕ) → Bool) (links : List LinkPlan) (customers : List CustomerPlan)
    → list_any p (ports_in links customers)
    ≡ (list_any (λ l. p (l.a.bridge, l.a.port) || p (l.b.bridge, l.b.port)) links || list_any
    (λ c. p (c.bridge, c.port)) customers)
list_any-ports_in p [] customers = list_any-map p (λ c. (c.bridge, c.port)) customers
list_any-ports_in p (l ∷ links) customers =
    by_first (p (l.a.bridge, l.a.port)) (p (l.b.bridge, l.b.port)) _ _ (list_any-ports_in p links customers)
  where
    by_first : (a b : Bool) {o : Bool} (n c : Bool) → o ≡ (n || c) → (a || (b || o)) ≡ (((a || b) || n) || c)
    by_first false false n c e = e
    by_first _ _ n c e = refl

-- if the first link's ends are free, the ports in use are distinct if and only if the others are
pub ports_rest : (links : List LinkPlan) (customers : List CustomerPlan) (link : LinkPlan)
    → 1 ≤ length links → link ≡ get_or links 0 link → HasFreeEnds link (ports_in (after_first links) customers)
    → IsDistinct is_same_port (ports_in links customers) ↔ IsDistinct is_same_port
    (ports_in (after_first links) customers)
unfolding IsDistinct
ports_rest [] customers link some is free = absurd (omega arith)
ports_rest (l ∷ links) customers link some is free =
    let ends : HasFreeEnds l (ports_in links customers) = rw (← is, ← after_first-cons l links) free in
    rw (after_first-cons l links) (
      (λ d. d.1.1),
      (λ d. (
        (ends.two, none_is is_same_port _ _ ends.a),
        (none_is is_same_port _ _ ends.b, d),
      )),
    )

-- if the first link's ends are not free, the ports in use are not distinct
pub ports_twice : (links : List LinkPlan) (customers : List CustomerPlan) (link : LinkPlan)
    → 1 ≤ length links → link ≡ get_or links 0 link → (HasFreeEnds link (ports_in (after_first links) customers) → ⊥)
    → IsDistinct is_same_port (ports_in links customers) → ⊥
unfolding IsDistinct
ports_twice [] customers link some is used d = absurd (omega arith)
ports_twice (l ∷ links) customers link some is used d =
    let ends : HasFreeEnds l (ports_in links customers) =
    record { two = d.0.0; a = none_tested is_same_port _ _ d.0.1; b = none_tested is_same_port _ _ d.1.0 } in
    used (rw (is, after_first-cons l links) ends)

pub ports_end : (links : List LinkPlan) (customers : List CustomerPlan) → length links < 1
    → ports_in links customers ≡ map (λ c. (c.bridge, c.port)) customers
ports_end [] customers h = refl
ports_end (l ∷ links) customers h = absurd (omega arith)
