-- The ends of rings that no place has yet.
use Rattle.std.proofs.Common.{◌≡◌, ℕ, zero, suc, ◌+◌, ◌*◌, ◌<◌, ◌≤◌, List, [], ◌∷◌, ◌++◌, Some, None, false, true}
use Rattle.std.proofs.Common.{length, map, drop, slice_get, slice_set, refl, sym, ap, ◌∙◌, subst, arith}
use Rattle.std.proofs.lemmas.Bool.{eq-eqb}
use Rattle.std.specs.Cmp.Derive.{both_true}
use Rattle.std.specs.List.{AllByRecursion, IsDistinct}
use Rattle.std.specs.declared.option.Option.{Option}
use Rattle.pb_frame.proofs.Lists.{All-imply, All-append, All-map, IsDistinct-back}
use Rattle.pb_frame.proofs.Things.{from_here}
use Rattle.pb_lan.specs.Plans.{IsNumber, IsSound, IsSoundEnd, IsSoundCustomer, is_same_port, ports_in}
use Rattle.pb_lan.specs.Ports.{all_ends}
use Rattle.pb_lan.specs.declared.plan.CustomerPlan.{CustomerPlan}
use Rattle.pb_lan.specs.declared.plan.LinkPlan.{LinkPlan}
use Rattle.pb_lan.specs.declared.plan.Plan.{Plan}
use Rattle.pb_run.specs.Wires.{ring_into, ring_out, IsThere, HasInner, HasOuter}

-- the other ends remain after one was taken
still_there : {X : Type 0} (ends : List (Option X)) (i n : ℕ) → (n ≡ i → ⊥) → IsThere ends n
    → IsThere (slice_set ends i None) n
still_there [] i n other h = h
still_there (end ∷ ends) zero zero other h = absurd (other refl)
still_there (end ∷ ends) zero (suc n) other h = h
still_there (end ∷ ends) (suc i) zero other h = h
still_there (end ∷ ends) (suc i) (suc n) other h = still_there ends i n (λ same. other (ap suc same)) h

stays : {X : Type 0} (ends left : List (Option X)) (given i n : ℕ) → left ≡ slice_set ends given None → given ≡ i
    → (n ≡ i → ⊥) → IsThere ends n → IsThere left n
stays ends left given i n e is other h = rw (e, is) (still_there ends i n other h)

-- two local ports have no ring in common
into_apart : (one two : ℕ × ℕ) → 1 ≤ one.0 → IsNumber one.1 16 → 1 ≤ two.0 → IsNumber two.1 16 → (two ≡ one → ⊥)
    → ring_into two.0 two.1 ≡ ring_into one.0 one.1 → ⊥
into_apart (b, p) (c, q) some within some_too within_too other same =
    let bridge : c ≡ b = numbers b p c q some within some_too within_too same in
    let port : q ≡ p = ports b p c q some within some_too within_too same in
    other (◌∙◌ {b = (b, q)} (ap (λ n. (n, q)) bridge) (ap (λ n. (b, n)) port))
  where
    numbers : (b p c q : ℕ) → 1 ≤ b → IsNumber p 16 → 1 ≤ c → IsNumber q 16 → ring_into c q ≡ ring_into b p → c ≡ b
    numbers b p c q some within some_too within_too same = omega arith

    ports : (b p c q : ℕ) → 1 ≤ b → IsNumber p 16 → 1 ≤ c → IsNumber q 16 → ring_into c q ≡ ring_into b p → q ≡ p
    ports b p c q some within some_too within_too same = omega arith

out_apart : (one two : ℕ × ℕ) → 1 ≤ one.0 → IsNumber one.1 16 → 1 ≤ two.0 → IsNumber two.1 16 → (two ≡ one → ⊥)
    → ring_out two.0 two.1 ≡ ring_out one.0 one.1 → ⊥
out_apart one two some within some_too within_too other same = into_apart one two some within some_too within_too
    other (omega arith)

into_no_out : (one two : ℕ × ℕ) → ring_into two.0 two.1 ≡ ring_out one.0 one.1 → ⊥
into_no_out one two same = omega arith

-- the remaining ends after a bridge has taken its two at a local port
module _ {X Y : Type 0} (outlets outlets_left : List (Option X)) (inlets inlets_left : List (Option Y)) (one : ℕ × ℕ)
    (into out : ℕ) (has : HasInner outlets inlets one)
    (is_into : into ≡ ring_into one.0 one.1) (is_out : out ≡ ring_out one.0 one.1)
    (left_in : inlets_left ≡ slice_set inlets into None) (left_out : outlets_left ≡ slice_set outlets out None)
  where
    pub inner_stay : (at : ℕ × ℕ) → (at ≡ one → ⊥) → HasInner outlets inlets at → HasInner outlets_left inlets_left at
    inner_stay at other h = record {
      bridge = h.bridge;
      port = h.port;
      receiving = stays inlets inlets_left into (ring_into one.0 one.1) (ring_into at.0 at.1) left_in is_into
          (into_apart one at has.bridge has.port h.bridge h.port other) h.receiving;
      sending = stays outlets outlets_left out (ring_out one.0 one.1) (ring_out at.0 at.1) left_out is_out
          (out_apart one at has.bridge has.port h.bridge h.port other) h.sending;
    }

    pub outer_stay : (at : ℕ × ℕ) → HasOuter outlets inlets at → HasOuter outlets_left inlets_left at
    outer_stay at h = record {
      bridge = h.bridge;
      port = h.port;
      sending = stays outlets outlets_left out (ring_out one.0 one.1) (ring_into at.0 at.1) left_out is_out
          (into_no_out one at) h.sending;
      receiving = stays inlets inlets_left into (ring_into one.0 one.1) (ring_out at.0 at.1) left_in is_into
          (λ same. into_no_out at one (sym same)) h.receiving;
    }

-- the remaining ends after the neighbour at a local port has taken its two
pub outer_rest : {X Y : Type 0} (outlets outlets_left : List (Option X)) (inlets inlets_left : List (Option Y))
    (one : ℕ × ℕ) (into out : ℕ) → HasOuter outlets inlets one
    → into ≡ ring_into one.0 one.1 → out ≡ ring_out one.0 one.1 → outlets_left ≡ slice_set outlets into None
    → inlets_left ≡ slice_set inlets out None
    → (at : ℕ × ℕ) → (at ≡ one → ⊥) → HasOuter outlets inlets at → HasOuter outlets_left inlets_left at
outer_rest outlets outlets_left inlets inlets_left one into out has is_into is_out left_out left_in at other h =
    record {
      bridge = h.bridge;
      port = h.port;
      sending = stays outlets outlets_left into (ring_into one.0 one.1) (ring_into at.0 at.1) left_out is_into
          (into_apart one at has.bridge has.port h.bridge h.port other) h.sending;
      receiving = stays inlets inlets_left out (ring_out one.0 one.1) (ring_out at.0 at.1) left_in is_out
          (out_apart one at has.bridge has.port h.bridge h.port other) h.receiving;
    }

-- the ends so far are there, and one more
pub one_more_there : {X : Type 0} (ends more : List (Option X)) (x : X) → more ≡ ends ++ Some x ∷ []
    → ((n : ℕ) → n < length ends → IsThere ends n) → (n : ℕ) → n < length more → IsThere more n
one_more_there {X} ends more x e all n within = rw e (by ends all n (rw e at within))
  where
    by : (xs : List (Option X)) → ((n : ℕ) → n < length xs → IsThere xs n) → (n : ℕ) → n < length (xs ++ Some x ∷ [])
        → IsThere (xs ++ Some x ∷ []) n
    by [] each zero less = (x, refl)
    by [] each (suc n) less = absurd (omega arith)
    by (y ∷ xs) each zero less = each zero (omega arith)
    by (y ∷ xs) each (suc n) less = by xs (λ m h. each (suc m) (omega arith)) n (omega arith)

-- if the ends of all rings are there, those of each local port are
module _ {X Y : Type 0} (outlets : List (Option X)) (inlets : List (Option Y)) (count bridges : ℕ)
    (is : count ≡ 32 * bridges) (all : (n : ℕ) → n < count → IsThere outlets n × IsThere inlets n) where
  pub all_inner : (at : ℕ × ℕ) → IsNumber at.0 bridges → IsNumber at.1 16 → HasInner outlets inlets at
  all_inner at bridge port = record {
    bridge = bridge.0;
    port = port;
    receiving = (all (ring_into at.0 at.1) (omega (arith, bridge.0, bridge.1, port.0, port.1))).1;
    sending = (all (ring_out at.0 at.1) (omega (arith, bridge.0, bridge.1, port.0, port.1))).0;
  }

  pub all_outer : (at : ℕ × ℕ) → IsNumber at.0 bridges → IsNumber at.1 16 → HasOuter outlets inlets at
  all_outer at bridge port = record {
    bridge = bridge.0;
    port = port;
    sending = (all (ring_into at.0 at.1) (omega (arith, bridge.0, bridge.1, port.0, port.1))).0;
    receiving = (all (ring_out at.0 at.1) (omega (arith, bridge.0, bridge.1, port.0, port.1))).1;
  }

-- a property of each local port holds of those that a sound plan uses
pub all_used : (P : (ℕ × ℕ) → Type 0) (plan : Plan) → IsSound plan
    → ((at : ℕ × ℕ) → IsNumber at.0 (length plan.bridges) → IsNumber at.1 16 → P at)
    → AllByRecursion P (ports_in plan.links plan.customers)
all_used P plan sound each =
    All-append P (map (λ e. (e.bridge, e.port)) (all_ends plan)) (map (λ c. (c.bridge, c.port)) plan.customers)
    (All-map P (λ e. (e.bridge, e.port)) (all_ends plan)
    (All-imply (IsSoundEnd plan) (λ e. P (e.bridge, e.port)) (λ e is. each (e.bridge, e.port) is.bridge is.port)
    (all_ends plan) sound.ends))
    (All-map P (λ c. (c.bridge, c.port)) plan.customers
    (All-imply (IsSoundCustomer plan) (λ c. P (c.bridge, c.port)) (λ c is. each (c.bridge, c.port) is.bridge is.port)
    plan.customers sound.customers))

-- no two customer ports are at one local port
pub customers_apart : (plan : Plan) → IsSound plan → IsDistinct is_same_port (ports_in [] plan.customers)
customers_apart plan sound = IsDistinct-back is_same_port (map (λ e. (e.bridge, e.port)) (all_ends plan))
    (map (λ c. (c.bridge, c.port)) plan.customers) sound.ports

-- two local ports that the test distinguishes differ
tested_apart : (one two : ℕ × ℕ) → is_same_port one two ≡ false → two ≡ one → ⊥
tested_apart one two test same =
    let yes : is_same_port one two ≡ true = both_true (eq-eqb one.0 two.0 (ap (λ (at : ℕ × ℕ). at.0) (sym same)))
    (eq-eqb one.1 two.1 (ap (λ (at : ℕ × ℕ). at.1) (sym same))) in
    cc

-- a property of the other local ports is kept if it is kept of each port but one
all_kept : (P Q : (ℕ × ℕ) → Type 0) (one : ℕ × ℕ) (others : List (ℕ × ℕ))
    → ((at : ℕ × ℕ) → (at ≡ one → ⊥) → P at → Q at)
    → AllByRecursion (λ at. is_same_port one at ≡ false) others → AllByRecursion P others → AllByRecursion Q others
all_kept P Q one [] keeps apart all = tt
all_kept P Q one (at ∷ others) keeps apart all =
    (keeps at (tested_apart one at apart.0) all.0, all_kept P Q one others keeps apart.1 all.1)

-- the first of a list of local ports, and the others
module _ (one : ℕ × ℕ) (others ports : List (ℕ × ℕ)) (is : ports ≡ one ∷ others) where
  all_there : (P : (ℕ × ℕ) → Type 0) → AllByRecursion P ports → P one × AllByRecursion P others
  all_there P all = subst (AllByRecursion P) is all

  all_distinct : IsDistinct is_same_port ports → IsDistinct is_same_port (one ∷ others)
  all_distinct distinct = subst (IsDistinct is_same_port) is distinct

  pub first_there : (P : (ℕ × ℕ) → Type 0) → AllByRecursion P ports → P one
  first_there P all = (all_there P all).0

  pub others_distinct : IsDistinct is_same_port ports → IsDistinct is_same_port others
  unfolding IsDistinct
  others_distinct distinct = (all_distinct distinct).1

  pub others_there : (P Q : (ℕ × ℕ) → Type 0) → IsDistinct is_same_port ports
      → ((there : ℕ × ℕ) → (there ≡ one → ⊥) → P there → Q there) → AllByRecursion P ports → AllByRecursion Q others
  unfolding IsDistinct
  others_there P Q distinct keeps all = all_kept P Q one others keeps (all_distinct distinct).0 (all_there P all).1

-- the local port of one customer port, and those after it
pub customer_ports : (customers : List CustomerPlan) (k : ℕ) (c : CustomerPlan) → slice_get customers k ≡ Some c
    → ports_in [] (drop k customers) ≡ (c.bridge, c.port) ∷ ports_in [] (drop (k + 1) customers)
customer_ports customers k c at = ap (λ (cs : List CustomerPlan). ports_in [] cs) (from_here customers k c at)

-- the local ports of one link, and those after it
module _ (links : List LinkPlan) (customers : List CustomerPlan) (k : ℕ) (link : LinkPlan)
    (at : slice_get links k ≡ Some link) where
  abbrev later : List (ℕ × ℕ)
  later = (link.b.bridge, link.b.port) ∷ ports_in (drop (k + 1) links) customers

  pub link_ports : ports_in (drop k links) customers ≡ (link.a.bridge, link.a.port) ∷ later
  link_ports = ap (λ (ls : List LinkPlan). ports_in ls customers) (from_here links k link at)

  later_distinct : IsDistinct is_same_port (ports_in (drop k links) customers) → IsDistinct is_same_port later
  later_distinct distinct =
      others_distinct (link.a.bridge, link.a.port) later (ports_in (drop k links) customers) link_ports distinct

  pub apart_after_link : IsDistinct is_same_port (ports_in (drop k links) customers)
      → IsDistinct is_same_port (ports_in (drop (k + 1) links) customers)
  apart_after_link distinct = others_distinct (link.b.bridge, link.b.port) (ports_in (drop (k + 1) links) customers)
      later refl (later_distinct distinct)

  pub after_link : (Q R : (ℕ × ℕ) → Type 0) → IsDistinct is_same_port (ports_in (drop k links) customers)
      → ((there : ℕ × ℕ) → (there ≡ (link.b.bridge, link.b.port) → ⊥) → Q there → R there)
      → AllByRecursion Q later → AllByRecursion R (ports_in (drop (k + 1) links) customers)
  after_link Q R distinct two all =
      others_there (link.b.bridge, link.b.port) (ports_in (drop (k + 1) links) customers) later refl Q R
      (later_distinct distinct) two all
