-- Vectors that none of a bridge's paths betters are those of the spanning tree.
use Rattle.std.proofs.Common.{◌≡◌, ◌≢◌, ◌⊎◌, inl, inr, ℕ, zero, suc, ◌+◌, ◌≤◌, ◌<◌, List, [], ◌∷◌, ◌++◌, Some, map}
use Rattle.std.proofs.Common.{refl, sym, ap, ap₂, ◌∙◌, subst, Bool, true, false, ◌==◌, ◌&&◌, not, if◌then◌else◌}
use Rattle.std.proofs.Common.{length, eqb, arith, unwrap_or, flat_map, slice_get, eqb-true, ne_eqb, eq-eqb, ext_get_or}
use Rattle.std.specs.List.{AllByRecursion, IsDistinct, list_any}
use Rattle.std.proofs.lemmas.Map.Steps.{length-le_from_distinct_below}
use Rattle.std.proofs.lemmas.Option.{unwrap_or-slice_get}
use Rattle.pb_frame.proofs.Lists.{All-append, All-front, All-back, All-flat_map-at, All-imply, All-placed}
use Rattle.pb_frame.proofs.Lists.{list_any-found}
use Rattle.pb_frame.proofs.Things.{thing_within}
use Rattle.pb_lan.specs.Forests.{CrossesBy, HasEnds}
use Rattle.pb_lan.specs.Numbering.{numbered, numbers_from}
use Rattle.pb_lan.specs.Plans.{IsNumber, IsSound}
use Rattle.pb_lan.specs.declared.plan.Plan.{Plan}
use Rattle.pb_lan.specs.declared.plan.End.{End}
use Rattle.pb_lan.specs.declared.plan.LinkPlan.{LinkPlan}
use Rattle.pb_lan.proofs.PortsInPlans.{sound-end, end-of-far}
use Rattle.pb_lan.proofs.Stillness.{numbered-from}
use Rattle.pb_rstp.specs.Roles.{best}
use Rattle.pb_rstp.specs.Vectors.{is_better, own_vector}
use Rattle.pb_rstp.specs.declared.vector.Vector.{Vector}
use Rattle.pb_rstp.proofs.OrderLaws.{better-irrefl, better-antisym, not_better-trans}
use Rattle.pb_spanning_tree.specs.Laws.{OneSolution}
use Rattle.pb_spanning_tree.specs.Solutions.{AreSolution, TakesPath}
use Rattle.pb_spanning_tree.specs.TreeOf.{Disabling, is_enabled, own_of, path_over, path_from, paths_over, paths_of}
use Rattle.pb_spanning_tree.specs.TreeOf.{vectors_after, vector_in, tree_of}
use Rattle.pb_spanning_tree.proofs.SolutionOrder.{NoneBetter, best-first, best-rest, best-below, path_over-below}

-- Vectors by number.

-- the vector of a bridge in a list made by number
pub vector-at : (f : ℕ → Vector) (plan : Plan) (b : ℕ) → IsNumber b (length plan.bridges)
    → vector_in (map f (numbers_from 1 plan.bridges)) b ≡ f b
vector-at f plan zero h = absurd (omega (arith, h.0))
vector-at f plan (suc i) h =
    let there = thing_within plan.bridges i (omega (arith, h.1)) in
    let e : 1 + i ≡ suc i = omega arith in
    ap (λ o. unwrap_or o (own_vector 0)) (numbered-from f 1 plan.bridges i there.0 there.1) ∙ ap f e

-- such a list has as many entries as the list that it numbers
length-made : {X : Type 0} (f : ℕ → Vector) (k : ℕ) (xs : List X) → length (map f (numbers_from k xs)) ≡ length xs
length-made f k [] = refl
length-made f k (x ∷ xs) = ap suc (length-made f (k + 1) xs)

-- there is a vector for each bridge
length-after : (plan : Plan) (disabled : Disabling) (n : ℕ)
    → length (vectors_after plan disabled n) ≡ length plan.bridges
length-after plan disabled zero = length-made (own_of plan) 1 plan.bridges
length-after plan disabled (suc n) = length-made
    (λ b. best (own_of plan b) (paths_of plan disabled (vectors_after plan disabled n) b)) 1 plan.bridges

-- the first vectors
vector-first : (plan : Plan) (disabled : Disabling) (b : ℕ) → IsNumber b (length plan.bridges)
    → vector_in (vectors_after plan disabled zero) b ≡ own_of plan b
vector-first plan disabled b h = vector-at (own_of plan) plan b h

-- the next vectors
vector-next : (plan : Plan) (disabled : Disabling) (n b : ℕ) → IsNumber b (length plan.bridges)
    → vector_in (vectors_after plan disabled (suc n)) b
    ≡ best (own_of plan b) (paths_of plan disabled (vectors_after plan disabled n) b)
vector-next plan disabled n b h =
    vector-at (λ c. best (own_of plan c) (paths_of plan disabled (vectors_after plan disabled n) c)) plan b h

-- Paths over two lists of vectors.

-- what no vector of two lists is better than, none of the first is
none-front : (x : Vector) (us vs : List Vector) → NoneBetter x (us ++ vs) → NoneBetter x us
none-front x us vs h = All-front (λ v. is_better v x ≡ false) us vs h

-- and none of the second
none-back : (x : Vector) (us vs : List Vector) → NoneBetter x (us ++ vs) → NoneBetter x vs
none-back x us vs h = All-back (λ v. is_better v x ≡ false) us vs h

-- and the other way round
none-append : (x : Vector) (us vs : List Vector) → NoneBetter x us → NoneBetter x vs → NoneBetter x (us ++ vs)
none-append x us vs g h = All-append (λ v. is_better v x ≡ false) us vs g h

-- at the bridge of an end, the first list has no worse vector
abbrev IsBelowAt : List Vector → List Vector → End → Type 0
IsBelowAt vs ws e = is_better (vector_in ws e.bridge) (vector_in vs e.bridge) ≡ false

-- what no path is better than, no path with worse vectors is
from-below : (plan : Plan) (vs ws : List Vector) (x : Vector) (b : ℕ) (near far : End) → IsBelowAt vs ws far
    → NoneBetter x (path_from plan vs b near far) → NoneBetter x (path_from plan ws b near far)
from-below plan vs ws x b near far below h = by_test (near.bridge == b && not (far.bridge == b)) h
  where
    by_test : (t : Bool) → NoneBetter x (if t then path_over plan vs near far ∷ [] else [])
        → NoneBetter x (if t then path_over plan ws near far ∷ [] else [])
    by_test true h = (
      not_better-trans (path_over plan ws near far) (path_over plan vs near far) x
          (path_over-below plan vs ws near far below) h.0,
      tt,
    )
    by_test false h = tt

-- the same over one link
over-below : (plan : Plan) (disabled : Disabling) (vs ws : List Vector) (x : Vector) (b : ℕ) (link : LinkPlan)
    → IsBelowAt vs ws link.a × IsBelowAt vs ws link.b
    → NoneBetter x (paths_over plan disabled vs b link) → NoneBetter x (paths_over plan disabled ws b link)
over-below plan disabled vs ws x b link below h = by_test (is_enabled disabled link) h
  where
    by_test : (t : Bool)
        → NoneBetter x (if t then path_from plan vs b link.a link.b ++ path_from plan vs b link.b link.a else [])
        → NoneBetter x (if t then path_from plan ws b link.a link.b ++ path_from plan ws b link.b link.a else [])
    by_test true h = none-append x (path_from plan ws b link.a link.b)
        (path_from plan ws b link.b link.a)
        (from-below plan vs ws x b link.a link.b below.1
        (none-front x (path_from plan vs b link.a link.b) (path_from plan vs b link.b link.a) h))
        (from-below plan vs ws x b link.b link.a below.0
        (none-back x (path_from plan vs b link.a link.b) (path_from plan vs b link.b link.a) h))
    by_test false h = tt

-- the same over several links
of-below : (plan : Plan) (disabled : Disabling) (vs ws : List Vector) (x : Vector) (b : ℕ) (links : List LinkPlan)
    → AllByRecursion (λ link. IsBelowAt vs ws link.a × IsBelowAt vs ws link.b) links
    → NoneBetter x (flat_map (paths_over plan disabled vs b) links)
    → NoneBetter x (flat_map (paths_over plan disabled ws b) links)
of-below plan disabled vs ws x b [] all h = tt
of-below plan disabled vs ws x b (link ∷ links) all h =
    none-append x (paths_over plan disabled ws b link)
    (flat_map (paths_over plan disabled ws b) links)
    (over-below plan disabled vs ws x b link all.0
    (none-front x (paths_over plan disabled vs b link)
    (flat_map (paths_over plan disabled vs b) links) h))
    (of-below plan disabled vs ws x b links all.1
    (none-back x (paths_over plan disabled vs b link)
    (flat_map (paths_over plan disabled vs b) links) h))

-- The lower bound.

-- after any number of repetitions no bridge has a better vector than in a solution
lower : (plan : Plan) (disabled : Disabling) (vectors : List Vector) → IsSound plan → AreSolution plan disabled vectors
    → (n b : ℕ) → IsNumber b (length plan.bridges)
    → is_better (vector_in (vectors_after plan disabled n) b) (vector_in vectors b) ≡ false
lower plan disabled vectors sound is zero b h =
    subst (λ z. is_better z (vector_in vectors b) ≡ false) (sym (vector-first plan disabled b h)) (is.least b h).0
lower plan disabled vectors sound is (suc n) b h =
    let ws : List Vector = vectors_after plan disabled n in
    let below : AllByRecursion (λ link. IsBelowAt vectors ws link.a × IsBelowAt vectors ws link.b) plan.links =
    All-imply (λ link. (k : ℕ) × (slice_get plan.links k ≡ Some link))
    (λ link. IsBelowAt vectors ws link.a × IsBelowAt vectors ws link.b)
    (λ link p. (
      lower plan disabled vectors sound is n link.a.bridge
          (sound-end plan sound (suc p.0) link link.a p.1 (inl refl)).bridge,
      lower plan disabled vectors sound is n link.b.bridge
          (sound-end plan sound (suc p.0) link link.b p.1 (inr refl)).bridge,
    ))
    plan.links (All-placed plan.links) in
    subst (λ z. is_better z (vector_in vectors b) ≡ false) (sym (vector-next plan disabled n b h))
    (best-below (vector_in vectors b) (own_of plan b) (paths_of plan disabled ws b) (is.least b h).0
    (of-below plan disabled vectors ws (vector_in vectors b) b plan.links below (is.least b h).1))

-- The upper bound.

-- the path from an end of the bridge is among those compared
from-known : (plan : Plan) (ws : List Vector) (x : Vector) (b : ℕ) (near far : End) → near.bridge ≡ b
    → far.bridge ≢ b → NoneBetter x (path_from plan ws b near far) → is_better (path_over plan ws near far) x ≡ false
from-known plan ws x b near far from other h =
    let test : (near.bridge == b && not (far.bridge == b)) ≡ true =
    ap₂ (λ s t. s && not t) (eq-eqb near.bridge b from) (ne_eqb far.bridge b other) in
    (subst (λ t. NoneBetter x (if t then path_over plan ws near far ∷ [] else [])) test h).0

-- so is the path over an enabled link from either of its ends
over-known : (plan : Plan) (disabled : Disabling) (ws : List Vector) (x : Vector) (b : ℕ) (link : LinkPlan)
    (near far : End)
    → HasEnds link near far → is_enabled disabled link ≡ true → near.bridge ≡ b → far.bridge ≢ b
    → NoneBetter x (paths_over plan disabled ws b link) → is_better (path_over plan ws near far) x ≡ false
over-known plan disabled ws x b link near far ends enabled from other h =
    let both : NoneBetter x (path_from plan ws b link.a link.b ++ path_from plan ws b link.b link.a) = subst
    (λ t. NoneBetter x (if t then path_from plan ws b link.a link.b ++ path_from plan ws b link.b link.a else []))
    enabled h in
    by_ends ends
    (none-front x (path_from plan ws b link.a link.b) (path_from plan ws b link.b link.a) both)
    (none-back x (path_from plan ws b link.a link.b) (path_from plan ws b link.b link.a) both)
  where
    by_ends : HasEnds link near far → NoneBetter x (path_from plan ws b link.a link.b)
        → NoneBetter x (path_from plan ws b link.b link.a) → is_better (path_over plan ws near far) x ≡ false
    by_ends (inl e) f g =
        from-known plan ws x b near far from other (subst (λ z. NoneBetter x (path_from plan ws b near z)) e.1
        (subst (λ z. NoneBetter x (path_from plan ws b z link.b)) e.0 f))
    by_ends (inr e) f g =
        from-known plan ws x b near far from other (subst (λ z. NoneBetter x (path_from plan ws b near z)) e.1
        (subst (λ z. NoneBetter x (path_from plan ws b z link.a)) e.0 g))

-- so is the path over an enabled link of the plan
pub crossing-known : (plan : Plan) (disabled : Disabling) (ws : List Vector) (x : Vector) (b number : ℕ)
    (near far : End)
    → CrossesBy plan (is_enabled disabled) number near far → near.bridge ≡ b → far.bridge ≢ b
    → NoneBetter x (paths_of plan disabled ws b) → is_better (path_over plan ws near far) x ≡ false
crossing-known plan disabled ws x b zero near far crosses from other h = absurd (none crosses.numbered_so)
  where
    none : {link : LinkPlan} → numbered plan.links zero ≡ Some link → ⊥
    none e = cc
crossing-known plan disabled ws x b (suc k) near far crosses from other h =
    over-known plan disabled ws x b crosses.link near far crosses.ends crosses.active from other
    (All-flat_map-at (λ v. is_better v x ≡ false) (paths_over plan disabled ws b) plan.links k crosses.link
    crosses.numbered_so h)

-- a bridge crosses the link of the path that it takes
pub crosses-taken : (plan : Plan) (disabled : Disabling) (vs : List Vector) (b : ℕ) → (t : TakesPath plan disabled vs b)
    → CrossesBy plan (is_enabled disabled) t.number t.near t.far
crosses-taken plan disabled vs b t =
    record { link = t.link; numbered_so = t.at; active = t.enabled; ends = t.ends }

-- the root path cost of a bridge
abbrev cost_in : List Vector → ℕ → ℕ
cost_in vectors b = (vector_in vectors b).cost

-- bridges that are farther from the root than this one, each once
record AreBelow (plan : Plan) (vectors : List Vector) (b : ℕ) (seen : List ℕ) : Type 0 where
  all : AllByRecursion (λ c. IsNumber c (length plan.bridges) × (cost_in vectors b < cost_in vectors c)) seen
  distinct : IsDistinct eqb seen

-- none of them is this one
distinct-more : (plan : Plan) (vectors : List Vector) (b : ℕ) (seen : List ℕ) → AreBelow plan vectors b seen
    → IsDistinct eqb (b ∷ seen)
unfolding IsDistinct
distinct-more plan vectors b seen below = (
  All-imply (λ d. IsNumber d (length plan.bridges) × (cost_in vectors b < cost_in vectors d)) (λ d. eqb b d ≡ false)
      (λ d p. ne_eqb b d
      (λ e. let same : cost_in vectors b ≡ cost_in vectors d = ap (cost_in vectors) e in omega (arith, p.1, same)))
      seen below.all,
  below.distinct,
)

-- with this one they are farther than a bridge of less root path cost
below-more : (plan : Plan) (vectors : List Vector) (b c : ℕ) (seen : List ℕ) → IsNumber b (length plan.bridges)
    → AreBelow plan vectors b seen → cost_in vectors c < cost_in vectors b → AreBelow plan vectors c (b ∷ seen)
below-more plan vectors b c seen h below less = record {
  all = (
    (h, less),
    All-imply
        (λ d. IsNumber d (length plan.bridges) × (cost_in vectors b < cost_in vectors d))
        (λ d. IsNumber d (length plan.bridges) × (cost_in vectors c < cost_in vectors d))
        (λ d p. (p.0, omega (arith, p.1, less))) seen below.all,
  );
  distinct = distinct-more plan vectors b seen below;
}

-- with this one they are no more than there are bridges, and one
below-few : (plan : Plan) (vectors : List Vector) (b : ℕ) (seen : List ℕ) → IsNumber b (length plan.bridges)
    → AreBelow plan vectors b seen → length seen ≤ length plan.bridges
below-few plan vectors b seen h below =
    let numbers : AllByRecursion (λ c. IsNumber c (length plan.bridges)) (b ∷ seen) = (
      h,
      All-imply (λ c. IsNumber c (length plan.bridges) × (cost_in vectors b < cost_in vectors c))
          (λ c. IsNumber c (length plan.bridges)) (λ c p. p.0) seen below.all,
    ) in
    let few : length (b ∷ seen) ≤ length plan.bridges + 1 =
    length-le_from_distinct_below (b ∷ seen) (length plan.bridges + 1) (distinct-more plan vectors b seen below)
    (λ q any. within numbers q any) in
    omega arith
  where
    within : AllByRecursion (λ c. IsNumber c (length plan.bridges)) (b ∷ seen) → (q : ℕ)
        → list_any (eqb q) (b ∷ seen) ≡ true → q < length plan.bridges + 1
    within numbers q any =
        let found = list_any-found (λ c. IsNumber c (length plan.bridges)) (eqb q) (b ∷ seen) any numbers in
        let same : q ≡ found.0 = eqb-true q found.0 found.2 in
        omega (arith, same, found.1.1)

-- after as many repetitions as bridges can be between it and the root, a bridge has no worse vector than in a solution
upper : (plan : Plan) (disabled : Disabling) (vectors : List Vector) → IsSound plan → AreSolution plan disabled vectors
    → (n b : ℕ) (seen : List ℕ) → IsNumber b (length plan.bridges) → AreBelow plan vectors b seen
    → length plan.bridges ≤ length seen + n
    → is_better (vector_in vectors b) (vector_in (vectors_after plan disabled n) b) ≡ false
upper plan disabled vectors sound is zero b seen h below long = by_taken (is.taken b h)
  where
    by_taken : (vector_in vectors b ≡ own_of plan b) ⊎ TakesPath plan disabled vectors b
        → is_better (vector_in vectors b) (vector_in (vectors_after plan disabled zero) b) ≡ false
    by_taken (inl own) =
        let same : vector_in (vectors_after plan disabled zero) b ≡ vector_in vectors b =
        vector-first plan disabled b h ∙ sym own in
        subst (λ z. is_better (vector_in vectors b) z ≡ false) (sym same) (better-irrefl (vector_in vectors b))
    by_taken (inr t) =
        let far = (sound-end plan sound t.number t.link t.far t.at (end-of-far t.link t.near t.far t.ends)).bridge in
        let once = below-more plan vectors b t.far.bridge seen h below t.rises in
        let few : length (b ∷ seen) ≤ length plan.bridges =
        below-few plan vectors t.far.bridge (b ∷ seen) far once in
        absurd (omega (arith, few, long))
upper plan disabled vectors sound is (suc n) b seen h below long =
    subst (λ z. is_better (vector_in vectors b) z ≡ false) (sym (vector-next plan disabled n b h))
    (by_taken
    (λ c h' below'. upper plan disabled vectors sound is n c (b ∷ seen) h' below' (omega (arith, long)))
    (is.taken b h))
  where
    by_taken : ((c : ℕ) → IsNumber c (length plan.bridges) → AreBelow plan vectors c (b ∷ seen)
        → is_better (vector_in vectors c) (vector_in (vectors_after plan disabled n) c) ≡ false)
        → (vector_in vectors b ≡ own_of plan b) ⊎ TakesPath plan disabled vectors b
        → is_better (vector_in vectors b)
        (best (own_of plan b) (paths_of plan disabled (vectors_after plan disabled n) b)) ≡ false
    by_taken again (inl own) =
        let others : List Vector = paths_of plan disabled (vectors_after plan disabled n) b in
        subst (λ z. is_better z (best (own_of plan b) others) ≡ false) (sym own) (best-first (own_of plan b) others)
    by_taken again (inr t) =
        let ws : List Vector = vectors_after plan disabled n in
        let x : Vector = best (own_of plan b) (paths_of plan disabled ws b) in
        let far = (sound-end plan sound t.number t.link t.far t.at (end-of-far t.link t.near t.far t.ends)).bridge in
        let once = below-more plan vectors b t.far.bridge seen h below t.rises in
        let no_worse = path_over-below plan ws vectors t.near t.far (again t.far.bridge far once) in
        let known = crossing-known plan disabled ws x b t.number t.near t.far
        (crosses-taken plan disabled vectors b t) t.from t.other
        (best-rest (own_of plan b) (paths_of plan disabled ws b)) in
        subst (λ z. is_better z x ≡ false) (sym t.vector)
        (not_better-trans (path_over plan vectors t.near t.far) (path_over plan ws t.near t.far) x no_worse known)

-- The vectors of a solution are those of the spanning tree.

-- each bridge has the vector of the spanning tree
solution-at : (plan : Plan) (disabled : Disabling) (vectors : List Vector) → IsSound plan
    → AreSolution plan disabled vectors
    → (b : ℕ) → IsNumber b (length plan.bridges) → vector_in vectors b ≡ vector_in (tree_of plan disabled) b
unfolding IsDistinct
solution-at plan disabled vectors sound is b h =
    better-antisym (vector_in vectors b) (vector_in (tree_of plan disabled) b)
    (upper plan disabled vectors sound is (length plan.bridges) b [] h (record { all = tt; distinct = tt })
    (omega arith))
    (lower plan disabled vectors sound is (length plan.bridges) b h)

-- a solution is the spanning tree
pub one_solution : OneSolution
one_solution plan disabled vectors sound is =
    ext_get_or (own_vector 0) vectors (tree_of plan disabled)
    (is.count ∙ sym (length-after plan disabled (length plan.bridges)))
    (λ i below. let count = is.count in sym (unwrap_or-slice_get vectors i (own_vector 0))
    ∙ solution-at plan disabled vectors sound is (suc i) (omega arith, omega (arith, below, count))
    ∙ unwrap_or-slice_get (tree_of plan disabled) i (own_vector 0))
