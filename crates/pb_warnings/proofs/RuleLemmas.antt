-- The rules about services whose ports are not joined, from marks, and about bridges too far from the root.
use Rattle.std.proofs.Common.{◌≡◌, ◌⊎◌, inl, inr, ◌<◌, ◌≤◌, ℕ, suc, Bool, true, false, not, ◌&&◌, ◌==◌, Some}
use Rattle.std.proofs.Common.{List, [], ◌∷◌, length, slice_get, refl, sym, arith}
use Rattle.std.specs.List.{list_any}
use Rattle.std.proofs.lemmas.Bool.{and_from, cases_lt, eqb-true, eq-eqb}
use Rattle.pb_frame.proofs.Lists.{All-placed, and-left, and-right, list_any-at, list_any-found}
use Rattle.pb_lan.proofs.Numbers.{numbered-place}
use Rattle.pb_lan.specs.Plans.{IsSound, IsNumber}
use Rattle.pb_lan.specs.declared.plan.Plan.{Plan}
use Rattle.pb_lan.specs.declared.plan.Spanning.TheVariants.{Rstp}
use Rattle.pb_joins.proofs.JoinLemmas.{customer_number, path_numbers}
use Rattle.pb_warnings.specs.Hops.{TellsWithin}
use Rattle.pb_warnings.specs.Links.{passes}
use Rattle.pb_warnings.specs.Marks.{is_apart, are_apart}
use Rattle.pb_joins.specs.Joins.{Leads, mark_at, TellsJoined}
use Rattle.pb_warnings.specs.Rules.{IsSplit, IsTooFar, root_of}
use Rattle.pb_warnings.specs.declared.links.Links.TheVariants.{All, Service}

-- an entry at which the test passes
any_where : {X : Type 0} (test : X → Bool) (xs : List X) → list_any test xs ≡ true
    → (k : ℕ) × (x : X) × (slice_get xs k ≡ Some x) × (test x ≡ true)
any_where test xs h =
    let found = list_any-found (λ x. (k : ℕ) × (slice_get xs k ≡ Some x)) test xs h (All-placed xs) in
    (found.1.0, found.0, found.1.1, found.2)

-- two numbers that the test tells apart are different
unequal : (a b : ℕ) → not (a == b) ≡ true → a ≡ b → ⊥
unequal a b h e = let same = eq-eqb a b e in cc

-- the test tells different numbers apart
apart : (a b : ℕ) → (a ≡ b → ⊥) → not (a == b) ≡ true
apart a b n = elim (a == b) as (λ t. (a == b) ≡ t → not t ≡ true)
    [ true ↦ λ e. absurd (n (eqb-true a b e)) | false ↦ λ e. refl ] refl

-- different marks of ports of a service show that it is split, if marks are right
pub split_from : (plan : Plan) (service : ℕ) (marks : List ℕ) → IsSound plan
    → TellsJoined plan (passes (Service service)) marks → are_apart plan marks service ≡ true → IsSplit plan service
split_from plan service marks sound tells h =
    let (k, c, at_c, of_c) = any_where _ plan.customers h in
    let (j, d, at_d, of_d) = any_where _ plan.customers (and-right (c.service == service) _ of_c) in
    record {
      p = suc k;
      q = suc j;
      here = c;
      there = d;
      planned_here = at_c;
      planned_there = at_d;
      of_here = eqb-true c.service service (and-left _ _ of_c);
      of_there = eqb-true d.service service (and-left _ _ of_d);
      apart = λ joined. unequal (mark_at marks d.bridge) (mark_at marks c.bridge)
          (and-right (d.service == service) _ of_d)
          (sym ((tells c.bridge d.bridge (customer_number plan sound k c at_c) (customer_number plan sound j d at_d)).1
          joined));
    }

-- the ports of a service that is split have different marks
pub split_to : (plan : Plan) (service : ℕ) (marks : List ℕ) → IsSound plan
    → TellsJoined plan (passes (Service service)) marks → IsSplit plan service → are_apart plan marks service ≡ true
split_to plan service marks sound tells s =
    let (k, _, at_c) = numbered-place plan.customers s.p s.here s.planned_here in
    let (j, _, at_d) = numbered-place plan.customers s.q s.there s.planned_there in
    let in_c = customer_number plan sound k s.here at_c in
    let in_d = customer_number plan sound j s.there at_d in
    let inner : is_apart plan marks service (mark_at marks s.here.bridge) ≡ true = list_any-at
    (λ c. c.service == service && not (mark_at marks c.bridge == mark_at marks s.here.bridge)) plan.customers j
    s.there at_d
    (and_from _ _ (eq-eqb s.there.service service s.of_there)
    (apart (mark_at marks s.there.bridge) (mark_at marks s.here.bridge)
    (λ e. s.apart ((tells s.here.bridge s.there.bridge in_c in_d).0 (sym e))))) in
    list_any-at (λ c. c.service == service && is_apart plan marks service (mark_at marks c.bridge)) plan.customers k
    s.here
    at_c (and_from _ _ (eq-eqb s.here.service service s.of_here) inner)

-- a bridge that is too far from the root, and the root, are bridges 1 to 32
pub far_numbers : (plan : Plan) (bridge : ℕ) → IsSound plan → IsTooFar plan bridge
    → IsNumber bridge 32 × IsNumber (root_of plan) 32
far_numbers plan bridge sound far = by far.joined.0 far.joined.1
  where
    by : (ks : List ℕ) → Leads plan (passes All) bridge ks (root_of plan) → IsNumber bridge 32
        × IsNumber (root_of plan) 32
    by [] w = absurd (let h = far.far [] w in omega (arith, h))
    by (k ∷ ks) w = path_numbers plan (passes All) sound bridge k ks (root_of plan) w

-- a bridge is too far if links join it to the root, and it is not within 20 links of it
pub far_from : (plan : Plan) (bridge : ℕ) (marks hops : List ℕ) → plan.spanning ≡ Rstp → IsNumber bridge 32
    → IsNumber (root_of plan) 32
    → TellsJoined plan (passes All) marks → TellsWithin plan (root_of plan) 20 hops
    → mark_at marks (root_of plan) ≡ mark_at marks bridge
    → 20 < mark_at hops bridge
    → IsTooFar plan bridge
far_from plan bridge marks hops rstp in_bridge in_root joins reaches same above = record {
  rstp = rstp;
  joined = (joins bridge (root_of plan) in_bridge in_root).0 (sym same);
  far = λ ks w. by ks w (cases_lt 20 (length ks));
}
  where
    by : (ks : List ℕ) → Leads plan (passes All) bridge ks (root_of plan) → (20 < length ks) ⊎ (length ks ≤ 20)
        → 20 < length ks
    by ks w (inl more) = more
    by ks w (inr few) = absurd (let h = (reaches bridge in_bridge).1 (ks, w, few) in omega (arith, h, above))

-- a bridge that is too far is joined to the root, and not within 20 links of it
pub far_joined : (plan : Plan) (bridge : ℕ) (marks : List ℕ) → IsSound plan → TellsJoined plan (passes All) marks
    → IsTooFar plan bridge → mark_at marks (root_of plan) ≡ mark_at marks bridge
far_joined plan bridge marks sound joins far =
    let (in_bridge, in_root) = far_numbers plan bridge sound far in
    sym ((joins bridge (root_of plan) in_bridge in_root).1 far.joined)

pub far_above : (plan : Plan) (bridge : ℕ) (hops : List ℕ) → IsSound plan → TellsWithin plan (root_of plan) 20 hops
    → IsTooFar plan bridge → 20 < mark_at hops bridge
far_above plan bridge hops sound reaches far = by (cases_lt 20 (mark_at hops bridge))
  where
    by : (20 < mark_at hops bridge) ⊎ (mark_at hops bridge ≤ 20) → 20 < mark_at hops bridge
    by (inl above) = above
    by (inr below) =
        let (ks, w, few) = (reaches bridge (far_numbers plan bridge sound far).0).0 below in
        absurd (let h = far.far ks w in omega (arith, h, few))
