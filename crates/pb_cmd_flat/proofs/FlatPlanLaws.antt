-- The plan of a network with one bridge: its customer ports, and that it is sound.
use Rattle.std.proofs.Common.{◌≡◌, ℕ, zero, suc, ◌+◌, ◌<◌, ◌≤◌, ◌⊎◌, inl, inr, Bool, true, false, List, [], ◌∷◌, ◌++◌}
use Rattle.std.proofs.Common.{Some, slice_get, length, map, refl, sym, ap, subst, ◌∙◌, arith, ◌==◌, ◌&&◌, nat_eq}
use Rattle.std.proofs.lemmas.List.{map-append, length_push}
use Rattle.std.specs.List.{AllByRecursion, IsDistinct}
use Rattle.std.proofs.lemmas.Option.{slice_get_within}
use Rattle.pb_frame.specs.Admission.{same}
use Rattle.pb_frame.specs.Lists.{first}
use Rattle.pb_frame.proofs.Lists.{All-append, All-map, Some-injective}
use Rattle.pb_frame.proofs.Things.{slice_get-next}
use Rattle.pb_lan.specs.Numbering.{numbered}
use Rattle.pb_lan.specs.Plans.{IsSound, IsSoundCustomer, is_same_port}
use Rattle.pb_lan.specs.Ports.{port_at, is_customer_at, customer_or_else}
use Rattle.pb_lan.specs.Ports.Port.{Customer, Unused}
use Rattle.pb_lan.specs.Events.{number_of}
use Rattle.pb_lan.specs.declared.plan.CustomerPlan.{CustomerPlan}
use Rattle.pb_cmd_flat.specs.FlatPlans.{flat_customer, flat_customers, flat_plan}

-- the number of customer ports
pub length-flat_customers : (ports : ℕ) → length (flat_customers ports) ≡ ports
length-flat_customers zero = refl
length-flat_customers (suc n) =
    let l = length_push (flat_customers n) (flat_customer (suc n)) in
    let rest = length-flat_customers n in
    omega (arith, l, rest)

-- an item keeps its place if the list grows
front_stays : {X : Type 0} (xs : List X) (y : X) (k : ℕ) → k < length xs → slice_get (xs ++ y ∷ []) k ≡ slice_get xs k
front_stays [] y k h = absurd (omega (arith, h))
front_stays (x ∷ xs) y zero h = refl
front_stays (x ∷ xs) y (suc k) h = front_stays xs y k (omega (arith, h))

-- the customer ports are in the order of their numbers
stands_at : (n k : ℕ) → k < n → slice_get (flat_customers n) k ≡ Some (flat_customer (suc k))
stands_at zero k h = absurd (omega (arith, h))
stands_at (suc n) k h = by_place (stands_at n k) (split k n h)
  where
    split : (k n : ℕ) → k < suc n → (k < n) ⊎ (k ≡ n)
    split k n h = grind (arith, h)

    by_place : (k < n → slice_get (flat_customers n) k ≡ Some (flat_customer (suc k))) → (k < n) ⊎ (k ≡ n)
        → slice_get (flat_customers n ++ flat_customer (suc n) ∷ []) k ≡ Some (flat_customer (suc k))
    by_place earlier (inl below) =
        front_stays (flat_customers n) (flat_customer (suc n)) k (rw (length-flat_customers n) below) ∙ earlier below
    by_place earlier (inr e) =
        ap (slice_get (flat_customers n ++ flat_customer (suc n) ∷ [])) (e ∙ sym (length-flat_customers n))
        ∙ slice_get-next (flat_customers n) [] (flat_customer (suc n)) ∙ ap (λ m. Some (flat_customer (suc m))) (sym e)

-- the customer port with a number
pub flat_customer-at : (ports n : ℕ) → 1 ≤ n → n ≤ ports → numbered (flat_customers ports) n ≡ Some (flat_customer n)
flat_customer-at ports zero l h = absurd (omega (arith, l))
flat_customer-at ports (suc k) l h = stands_at ports k (omega (arith, h))

-- the plan has no other customer ports
pub flat_customer-only : (ports n : ℕ) (c : CustomerPlan) → numbered (flat_customers ports) n ≡ Some c
    → (1 ≤ n) × (n ≤ ports) × (c ≡ flat_customer n)
flat_customer-only ports zero c h = cc
flat_customer-only ports (suc k) c h =
    let i : k < ports = rw (length-flat_customers ports) at (slice_get_within (flat_customers ports) k c h) in
    (omega arith, omega (arith, i), Some-injective (sym h ∙ stands_at ports k i))

-- a fact of each customer port is a fact of all
every_customer : (P : CustomerPlan → Type 0) (n : ℕ) → ((k : ℕ) → 1 ≤ k → k ≤ n → P (flat_customer k))
    → AllByRecursion P (flat_customers n)
every_customer P zero h = tt
every_customer P (suc n) h =
    All-append P (flat_customers n) (flat_customer (suc n) ∷ [])
    (every_customer P n (λ k l u. h k l (omega (arith, u))))
    (h (suc n) (omega arith) (omega arith), tt)

-- keys stay distinct with one more that differs from each of them
distinct_push : {K : Type 0} (e : K → K → Bool) (ks : List K) (k : K) → IsDistinct e ks
    → AllByRecursion (λ x. e x k ≡ false) ks → IsDistinct e (ks ++ k ∷ [])
unfolding IsDistinct
distinct_push e [] k d a = (tt, tt)
distinct_push e (x ∷ ks) k d a =
    (All-append (λ y. e x y ≡ false) ks (k ∷ []) d.0 (a.0, tt), distinct_push e ks k d.1 a.1)

-- keys of the customer ports are distinct if they differ for different numbers
distinct_customers : {K : Type 0} (e : K → K → Bool) (f : CustomerPlan → K)
    → ((a b : ℕ) → a < b → e (f (flat_customer a)) (f (flat_customer b)) ≡ false)
    → (n : ℕ) → IsDistinct e (map f (flat_customers n))
unfolding IsDistinct
distinct_customers e f apart zero = tt
distinct_customers e f apart (suc n) =
    subst (IsDistinct e) (sym (map-append f (flat_customers n) (flat_customer (suc n) ∷ [])))
    (distinct_push e (map f (flat_customers n)) (f (flat_customer (suc n))) (distinct_customers e f apart n)
    (All-map (λ x. e x (f (flat_customer (suc n))) ≡ false) f (flat_customers n)
    (every_customer (λ c. e (f c) (f (flat_customer (suc n))) ≡ false) n
    (λ k l u. apart k (suc n) (omega (arith, u))))))

-- the names differ
names_apart : (a b : ℕ) → a < b → (nat_eq (96 + a) (96 + b) && true) ≡ false
names_apart a b h = grind (arith, h)

-- the local ports differ
ports_apart : (a b : ℕ) → a < b → ((1 == 1) && (a == b)) ≡ false
ports_apart a b h = grind (arith, h)

-- the plan is sound (used by `Switch::new`)
pub flat_sound : (ports : ℕ) → 2 ≤ ports → ports ≤ 16 → IsSound (flat_plan ports)
unfolding IsDistinct
flat_sound ports l h = record {
  limits = record {
    bridges = omega arith;
    links = omega arith;
    services = omega arith;
    customers = few;
    ring = (omega arith, omega arith);
    steps = (omega arith, omega arith);
    ageing = (omega arith, omega arith);
  };
  names = record {
    bridges = (tt, tt);
    links = tt;
    services = (tt, tt);
    customers = distinct_customers same (λ c. c.name) names_apart ports;
  };
  bridges = (record { address = refl; priority = (refl, omega arith); queue = (omega arith, omega arith) }, tt);
  addresses = (tt, tt);
  ends = tt;
  losses = tt;
  vids = ((omega arith, omega arith), tt);
  distinct_vids = (tt, tt);
  customers = every_customer (IsSoundCustomer (flat_plan ports)) ports (λ k lower upper. record {
    bridge = (omega arith, omega arith);
    port = (lower, omega (arith, upper, h));
    service = (omega arith, omega arith);
    priority = omega arith;
    queue = (omega arith, omega arith);
  });
  ports = distinct_customers is_same_port (λ c. (c.bridge, c.port)) ports_apart ports;
}
  where
    few : length (flat_customers ports) ≤ 128
    few = let n = length-flat_customers ports in omega (arith, n, h)

-- the first thing that passes a test, and its number
first-at : {X : Type 0} (test : X → Bool) (i : ℕ) (xs : List X) (k : ℕ) (x : X) → slice_get xs k ≡ Some x
    → test x ≡ true
    → ((j : ℕ) (y : X) → j < k → slice_get xs j ≡ Some y → test y ≡ false) → (first test xs ≡ Some x)
    × (number_of test i xs ≡ i + k)
first-at test i [] k x h t before = cc
first-at test i (y ∷ ys) zero x h t before =
    let passes : test y ≡ true = subst (λ z. test z ≡ true) (sym (Some-injective h)) t in
    rw passes (h, omega arith)
first-at test i (y ∷ ys) (suc k) x h t before =
    let fails : test y ≡ false = before 0 y (omega arith) refl in
    let rest = first-at test (i + 1) ys k x h t (λ j z below at. before (suc j) z (omega (arith, below)) at) in
    rw fails (rest.0, rest.1 ∙ omega arith)

-- the customer port with a number is the first at the local port with that number
first_there : (ports n : ℕ) → 1 ≤ n → n ≤ ports
    → (first (is_customer_at 1 n) (flat_customers ports) ≡ Some (flat_customer n))
    × (number_of (is_customer_at 1 n) 1 (flat_customers ports) ≡ n)
first_there ports zero l h = absurd (omega (arith, l))
first_there ports (suc k) l h = (found.0, found.1 ∙ omega arith)
  where
    here : (m : ℕ) → ((1 == 1) && (m == m)) ≡ true
    here m = grind arith

    found : (first (is_customer_at 1 (suc k)) (flat_customers ports) ≡ Some (flat_customer (suc k)))
        × (number_of (is_customer_at 1 (suc k)) 1 (flat_customers ports) ≡ 1 + k)
    found = first-at (is_customer_at 1 (suc k)) 1 (flat_customers ports) k (flat_customer (suc k))
        (flat_customer-at ports (suc k) l h) (here (suc k))
        (λ j c below at. subst (λ d. is_customer_at 1 (suc k) d ≡ false)
        (sym (flat_customer-only ports (suc j) c at).2) (ports_apart (suc j) (suc k) (omega (arith, below))))

-- each customer port is at the local port with its number
pub flat_port-at : (ports n : ℕ) → 1 ≤ n → n ≤ ports → port_at (flat_plan ports) 1 n ≡ Customer (flat_customer n)
flat_port-at ports n l h = ap (λ o. customer_or_else o Unused) (first_there ports n l h).0
