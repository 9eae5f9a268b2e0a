-- Each used port is used once.
use Rattle.std.proofs.Common.{◌≡◌, ℕ, ◌+◌, Some, None, Option, Bool, true, false, cond, ◌&&◌, ◌||◌, ◌==◌, List, []}
use Rattle.std.proofs.Common.{◌∷◌, map, refl, sym, ◌∙◌, ap, subst, arith, nat_eq}
use Rattle.std.proofs.lemmas.Bool.{eqb-true}
use Rattle.std.specs.List.{AllByRecursion, IsDistinct, list_any}
use Rattle.pb_forest.proofs.Sums.{given, total, total-same, total-none, total-agree, total-swap, total-once}
use Rattle.pb_frame.proofs.Lists.{and-left, and-right, All-imply, All-map, All-append, first-numbered, list_any-at}
use Rattle.pb_frame.proofs.Lists.{list_any-left, list_any-right}
use Rattle.pb_frame.specs.Lists.{first}
use Rattle.pb_lan.proofs.Rulings.{local-listed}
use Rattle.pb_lan.specs.Plans.{IsSound, IsSoundEnd, IsSoundCustomer, IsNumber, is_same_port, used_ports}
use Rattle.pb_lan.specs.Ports.{port_at, provider_or_unused, customer_or_else, is_customer_at, is_end_at, all_ends}
use Rattle.pb_lan.specs.Ports.{local_ports}
use Rattle.pb_lan.specs.Ports.Port.{Unused}
use Rattle.pb_lan.specs.declared.plan.Plan.{Plan}
use Rattle.pb_lan.specs.declared.plan.End.{End}
use Rattle.pb_lan.specs.declared.plan.CustomerPlan.{CustomerPlan}

-- a test of the images is a test of the elements
list_any-map : {X Y : Type 0} (test : Y → Bool) (f : X → Y) (xs : List X) → list_any (λ x. test (f x)) xs ≡ true
    → list_any test (map f xs) ≡ true
list_any-map test f [] h = cc
list_any-map test f (x ∷ xs) h =
    elim (test (f x)) as (λ b. (b || list_any (λ x. test (f x)) xs) ≡ true → (b || list_any test (map f xs)) ≡ true)
    [ true ↦ λ e. refl | false ↦ λ e. list_any-map test f xs e ] h

-- a port that is not unused is among the used ports
pub used-at : (plan : Plan) (b q : ℕ) → (port_at plan b q ≡ Unused → ⊥)
    → list_any (is_same_port (b, q)) (used_ports plan) ≡ true
used-at plan b q used = by_customer (first (is_customer_at b q) plan.customers) refl
  where
    turned : (x y : ℕ) → (x == b && y == q) ≡ true → (b == x && q == y) ≡ true
    turned x y h = grind (arith, h)

    by_end : (o : Option End) → first (is_end_at b q) (all_ends plan) ≡ o
        → first (is_customer_at b q) plan.customers ≡ None → list_any (is_same_port (b, q)) (used_ports plan) ≡ true
    by_end None h n = absurd (used
        (ap (λ o. customer_or_else o (provider_or_unused (first (is_end_at b q) (all_ends plan)))) n
        ∙ ap provider_or_unused h))
    by_end (Some e) h n =
        let p = first-numbered (is_end_at b q) (all_ends plan) e h in
        list_any-left (is_same_port (b, q)) (map (λ (e : End). (e.bridge, e.port)) (all_ends plan))
        (map (λ (c : CustomerPlan). (c.bridge, c.port)) plan.customers)
        (list_any-map (is_same_port (b, q)) (λ (e : End). (e.bridge, e.port)) (all_ends plan)
        (list_any-at (λ (e : End). is_same_port (b, q) (e.bridge, e.port)) (all_ends plan) p.0 e p.1
        (turned e.bridge e.port p.2)))

    by_customer : (o : Option CustomerPlan) → first (is_customer_at b q) plan.customers ≡ o
        → list_any (is_same_port (b, q)) (used_ports plan) ≡ true
    by_customer None h = by_end (first (is_end_at b q) (all_ends plan)) refl h
    by_customer (Some c) h =
        let p = first-numbered (is_customer_at b q) plan.customers c h in
        list_any-right (is_same_port (b, q)) (map (λ (e : End). (e.bridge, e.port)) (all_ends plan))
        (map (λ (c : CustomerPlan). (c.bridge, c.port)) plan.customers)
        (list_any-map (is_same_port (b, q)) (λ (c : CustomerPlan). (c.bridge, c.port)) plan.customers
        (list_any-at (λ (c : CustomerPlan). is_same_port (b, q) (c.bridge, c.port)) plan.customers p.0 c p.1
        (turned c.bridge c.port p.2)))

-- used ports are local ports
used-numbers : (plan : Plan) → IsSound plan → AllByRecursion (λ p. IsNumber p.1 16) (used_ports plan)
used-numbers plan sound =
    All-append (λ p. IsNumber p.1 16) (map (λ (e : End). (e.bridge, e.port)) (all_ends plan))
    (map (λ (c : CustomerPlan). (c.bridge, c.port)) plan.customers)
    (All-map (λ p. IsNumber p.1 16) (λ (e : End). (e.bridge, e.port)) (all_ends plan)
    (All-imply (IsSoundEnd plan) (λ e. IsNumber e.port 16) (λ e s. s.port) (all_ends plan) sound.ends))
    (All-map (λ p. IsNumber p.1 16) (λ (c : CustomerPlan). (c.bridge, c.port)) plan.customers
    (All-imply (IsSoundCustomer plan) (λ c. IsNumber c.port 16) (λ c s. s.port) plan.customers sound.customers))

-- a port in a list of distinct ports has one term in a sum
port-once : (b q v : ℕ) (ps : List (ℕ × ℕ)) → IsDistinct is_same_port ps → list_any (is_same_port (b, q)) ps ≡ true
    → total (λ p. cond (is_same_port (b, q) p) v 0) ps ≡ v
unfolding IsDistinct
port-once b q v [] d f = cc
port-once b q v (p ∷ ps) d f =
    elim (is_same_port (b, q) p)
    as (λ t. is_same_port (b, q) p ≡ t → (t || list_any (is_same_port (b, q)) ps) ≡ true → cond t v 0 + total
    (λ p. cond (is_same_port (b, q) p) v 0) ps ≡ v) [
      | true ↦ λ e g.
          let z : total (λ p. cond (is_same_port (b, q) p) v 0) ps ≡ 0 =
          total-same (λ p. cond (is_same_port (b, q) p) v 0) (λ p. 0) ps
          (All-imply (λ y. is_same_port p y ≡ false) (λ y. cond (is_same_port (b, q) y) v 0 ≡ 0)
          (λ y a. ap (λ t. cond t v 0) (other y e a)) ps d.0) ∙ total-none ps in
          omega (arith, z)
      | false ↦ λ e g. let r = port-once b q v ps d.1 g in omega (arith, r)
    ] refl f
  where
    other : (y : ℕ × ℕ) → is_same_port (b, q) p ≡ true → is_same_port p y ≡ false → is_same_port (b, q) y ≡ false
    other y e a =
        let i : b ≡ p.0 = eqb-true b p.0 (and-left _ _ e) in
        let j : q ≡ p.1 = eqb-true q p.1 (and-right (b == p.0) _ e) in
        subst (λ x. (x == y.0 && q == y.1) ≡ false) (sym i) (subst (λ x. (p.0 == y.0 && x == y.1) ≡ false) (sym j) a)

-- two nested conditions are one
both-tests : (s t : Bool) (v : ℕ) → cond s (cond t v 0) 0 ≡ cond (s && t) v 0
both-tests true t v = refl
both-tests false t v = refl

-- a port that is not unused has one term in a sum over the used ports
pub used-once : (plan : Plan) → IsSound plan → (b q v : ℕ) → (port_at plan b q ≡ Unused → ⊥)
    → total (λ p. cond (b == p.0) (cond (q == p.1) v 0) 0) (used_ports plan) ≡ v
used-once plan sound b q v used =
    total-agree (λ p. cond (b == p.0) (cond (q == p.1) v 0) 0) (λ p. cond (is_same_port (b, q) p) v 0)
    (λ p. both-tests (b == p.0) (q == p.1) v) (used_ports plan)
    ∙ port-once b q v (used_ports plan) sound.ports (used-at plan b q used)

-- the local ports are distinct
local-distinct : IsDistinct nat_eq local_ports
unfolding IsDistinct
local-distinct = (
  (
    refl,
    (
      refl,
      (refl, (refl, (refl, (refl, (refl, (refl, (refl, (refl, (refl, (refl, (refl, (refl, (refl, tt))))))))))))),
    ),
  ),
  (
    (
      refl,
      (
        refl,
        (
          refl,
          (
            refl,
            (refl, (refl, (refl, (refl, (refl, (refl, (refl, (refl, (refl, (refl, tt)))))))))),
          ),
        ),
      ),
    ),
    (
      (refl, (refl, (refl, (refl, (refl, (refl, (refl, (refl, (refl, (refl, (refl, (refl, (refl, tt))))))))))))),
      (
        (refl, (refl, (refl, (refl, (refl, (refl, (refl, (refl, (refl, (refl, (refl, (refl, tt)))))))))))),
        (
          (refl, (refl, (refl, (refl, (refl, (refl, (refl, (refl, (refl, (refl, (refl, tt))))))))))),
          (
            (refl, (refl, (refl, (refl, (refl, (refl, (refl, (refl, (refl, (refl, tt)))))))))),
            (
              (refl, (refl, (refl, (refl, (refl, (refl, (refl, (refl, (refl, tt))))))))),
              (
                (refl, (refl, (refl, (refl, (refl, (refl, (refl, (refl, tt)))))))),
                (
                  (refl, (refl, (refl, (refl, (refl, (refl, (refl, tt))))))),
                  (
                    (refl, (refl, (refl, (refl, (refl, (refl, tt)))))),
                    (
                      (refl, (refl, (refl, (refl, (refl, tt))))),
                      (
                        (refl, (refl, (refl, (refl, tt)))),
                        ((refl, (refl, (refl, tt))), ((refl, (refl, tt)), ((refl, tt), (tt, tt)))),
                      ),
                    ),
                  ),
                ),
              ),
            ),
          ),
        ),
      ),
    ),
  ),
)

-- a sum over the local ports that are used is a sum over the used ports
pub used-total : (plan : Plan) → IsSound plan → (b : ℕ) (gives : ℕ → Bool)
    → ((q : ℕ) → gives q ≡ true → port_at plan b q ≡ Unused → ⊥)
    → total (λ p. cond (b == p.0) (cond (gives p.1) 1 0) 0) (used_ports plan) ≡ total (λ q. cond (gives q) 1 0)
    local_ports
used-total plan sound b gives used =
    total-same (λ p. cond (b == p.0) (cond (gives p.1) 1 0) 0)
    (λ p. total (λ q. cond (b == p.0) (cond (q == p.1) (cond (gives q) 1 0) 0) 0) local_ports) (used_ports plan)
    (All-imply (λ p. IsNumber p.1 16) (λ p. PortGives p)
    (λ p n. spread (b == p.0) p.1 n) (used_ports plan) (used-numbers plan sound))
    ∙ total-swap (λ p q. cond (b == p.0) (cond (q == p.1) (cond (gives q) 1 0) 0) 0) (used_ports plan) local_ports
    ∙ total-agree (λ q. total (λ p. cond (b == p.0) (cond (q == p.1) (cond (gives q) 1 0) 0) 0) (used_ports plan))
    (λ q. cond (gives q) 1 0) each local_ports
  where
    PortGives : ℕ × ℕ → Type 0
    PortGives p = cond (b == p.0) (cond (gives p.1) 1 0) 0 ≡ total
        (λ q. cond (b == p.0) (cond (q == p.1) (cond (gives q) 1 0) 0) 0) local_ports

    spread : (t : Bool) (k : ℕ) → IsNumber k 16
        → cond t (cond (gives k) 1 0) 0 ≡ total (λ q. cond t (cond (q == k) (cond (gives q) 1 0) 0) 0) local_ports
    spread true k n = sym (total-once (λ q. cond (gives q) 1 0) k local_ports local-distinct (local-listed k n))
    spread false k n = sym (total-none local_ports)

    none : (s t : Bool) → given s (given t 0) ≡ 0
    none true true = refl
    none true false = refl
    none false t = refl

    each : (q : ℕ) → total (λ p. cond (b == p.0) (cond (q == p.1) (cond (gives q) 1 0) 0) 0) (used_ports plan) ≡ cond
        (gives q) 1 0
    each q =
        elim (gives q) as (λ g. gives q ≡ g → total (λ p. cond (b == p.0) (cond (q == p.1) (cond g 1 0) 0) 0)
        (used_ports plan) ≡ cond g 1 0) [
          | true ↦ λ e. used-once plan sound b q 1 (used q e)
          | false ↦ λ e. total-agree (λ p. cond (b == p.0) (cond (q == p.1) 0 0) 0) (λ p. 0)
              (λ p. none (b == p.0) (q == p.1)) (used_ports plan) ∙ total-none (used_ports plan)
        ] refl
