-- The root path costs of the spanning tree, and lists that are made bridge by bridge.
use Rattle.std.proofs.Common.{◌≡◌, ℕ, zero, suc, ◌+◌, ◌*◌, ◌<◌, ◌≤◌, Bool, true, false, if◌then◌else◌, List, []}
use Rattle.std.proofs.Common.{◌∷◌, ◌++◌, Some, None, refl, sym, ap, ◌∙◌, subst, map, take, length, slice_get, arith}
use Rattle.std.proofs.Common.{inl, inr, unwrap_or, ◌==◌, ◌&&◌, not}
use Rattle.std.proofs.lemmas.List.{map-append}
use Rattle.std.specs.List.{AllByRecursion}
use Rattle.std.specs.declared.option.Option.{Option}
use Rattle.pb_frame.proofs.Lists.{All-append, All-flat_map, All-imply, All-placed}
use Rattle.pb_lan.proofs.PortsInPlans.{sound-end}
use Rattle.pb_lan.proofs.StateLemmas.{numbers-more}
use Rattle.pb_lan.specs.Numbering.{numbered, numbers_from}
use Rattle.pb_lan.specs.Plans.{IsSound}
use Rattle.pb_lan.specs.declared.plan.Plan.{Plan}
use Rattle.pb_lan.specs.declared.plan.End.{End}
use Rattle.pb_lan.specs.declared.plan.LinkPlan.{LinkPlan}
use Rattle.pb_rstp.proofs.ForestLaws.{numbered-only}
use Rattle.pb_rstp.specs.Roles.{best}
use Rattle.pb_rstp.specs.Vectors.{is_better, own_vector}
use Rattle.pb_rstp.specs.declared.vector.Vector.{Vector}
use Rattle.pb_spanning_tree.specs.TreeOf.{Disabling, is_enabled, own_of, path_from, path_over, paths_of, paths_over}
use Rattle.pb_spanning_tree.specs.TreeOf.{vector_in, vectors_after}
use Rattle.pb_spanning_tree.specs.TreeVectors.{AreSmall}

-- one more entry, for the next number
pub pushed-more : {X T Y : Type 0} (g : T → Y) (f : ℕ → Y) (xs : List X) (k : ℕ) (old new : List T) (x : T)
    → k < length xs → new ≡ old ++ x ∷ [] → map g old ≡ map f (take k (numbers_from 1 xs)) → g x ≡ f (k + 1)
    → map g new ≡ map f (take (k + 1) (numbers_from 1 xs))
pushed-more g f xs k old new x within is so_far value =
    ap (map g) is ∙ map-append g old (x ∷ []) ∙ ap (λ ys. ys ++ g x ∷ []) so_far
    ∙ ap (λ y. map f (take k (numbers_from 1 xs)) ++ y ∷ []) value ∙ sym (numbers-more f 1 k xs within)

-- a vector of the list has what all have
vector-All : (P : Vector → Type 0) → P (own_vector 0) → (f : ℕ → Vector) → ((b : ℕ) → P (f b)) → {X : Type 0}
    → (xs : List X) (b : ℕ) → P (vector_in (map f (numbers_from 1 xs)) b)
vector-All P none f all xs b = by_entry (numbered (map f (numbers_from 1 xs)) b) refl
  where
    by_entry : (o : Option Vector) → numbered (map f (numbers_from 1 xs)) b ≡ o
        → P (vector_in (map f (numbers_from 1 xs)) b)
    by_entry None e = subst (λ p. P (unwrap_or p (own_vector 0))) (sym e) none
    by_entry (Some v) e =
        subst (λ p. P (unwrap_or p (own_vector 0))) (sym e)
        (subst P (sym (numbered-only f xs b v e).2) (all b))

-- the best of vectors has what all have
best-All : (P : Vector → Type 0) (v : Vector) (ws : List Vector) → P v → AllByRecursion P ws → P (best v ws)
best-All P v [] h a = h
best-All P v (w ∷ ws) h a = best-All P (if is_better w v then w else v) ws (either (is_better w v)) a.1
  where
    either : (t : Bool) → P (if t then w else v)
    either true = a.0
    either false = h

-- a list that may be left out has what all its elements have
if-All : (P : Vector → Type 0) (t : Bool) (vs : List Vector) → AllByRecursion P vs
    → AllByRecursion P (if t then vs else [])
if-All P true vs a = a
if-All P false vs a = tt

-- the greatest path cost of an end
abbrev most : ℕ
most = 200000000

-- the paths over a link cost at most as much more
over-cost : (plan : Plan) (disabled : Disabling) (vectors : List Vector) (n : ℕ)
    → ((b : ℕ) → (vector_in vectors b).cost ≤ n * most) → (bridge : ℕ) (link : LinkPlan) → link.a.cost ≤ most
    → link.b.cost ≤ most
    → AllByRecursion (λ v. v.cost ≤ suc n * most) (paths_over plan disabled vectors bridge link)
over-cost plan disabled vectors n small bridge link a b =
    if-All P (is_enabled disabled link) both (All-append P (path_from plan vectors bridge link.a link.b)
    (path_from plan vectors bridge link.b link.a) (way link.a link.b a) (way link.b link.a b))
  where
    P : Vector → Type 0
    P v = v.cost ≤ suc n * most

    both : List Vector
    both = path_from plan vectors bridge link.a link.b ++ path_from plan vectors bridge link.b link.a

    way : (near far : End) → near.cost ≤ most → AllByRecursion P (path_from plan vectors bridge near far)
    way near far cost =
        let upper = small far.bridge in
        if-All P (near.bridge == bridge && not (far.bridge == bridge)) (path_over plan vectors near far ∷ [])
        (omega (arith, upper, cost), tt)

-- after n rounds, costs are at most n times the greatest path cost
costs-after : (plan : Plan) (disabled : Disabling) → IsSound plan → (n b : ℕ)
    → (vector_in (vectors_after plan disabled n) b).cost ≤ n * most
costs-after plan disabled sound zero b =
    vector-All (λ v. v.cost ≤ 0 * most) (omega arith) (own_of plan) (λ c. omega arith) plan.bridges b
costs-after plan disabled sound (suc n) b =
    vector-All (λ v. v.cost ≤ suc n * most) (omega arith)
    (λ bridge. best (own_of plan bridge) (paths_of plan disabled (vectors_after plan disabled n) bridge))
    (λ bridge. best-All (λ v. v.cost ≤ suc n * most) (own_of plan bridge)
    (paths_of plan disabled (vectors_after plan disabled n) bridge) (omega arith)
    (All-flat_map (λ v. v.cost ≤ suc n * most) (paths_over plan disabled (vectors_after plan disabled n) bridge)
    plan.links
    (All-imply (λ link. (i : ℕ) × (slice_get plan.links i ≡ Some link))
    (λ link. AllByRecursion (λ v. v.cost ≤ suc n * most)
    (paths_over plan disabled (vectors_after plan disabled n) bridge link))
    (λ link placed. over-cost plan disabled (vectors_after plan disabled n) n
    (costs-after plan disabled sound n) bridge link
    (sound-end plan sound (suc placed.0) link link.a placed.1 (inl refl)).cost.1
    (sound-end plan sound (suc placed.0) link link.b placed.1 (inr refl)).cost.1)
    plan.links (All-placed plan.links))))
    plan.bridges b

-- up to 32 rounds the costs are small
pub small-after : (plan : Plan) (disabled : Disabling) → IsSound plan → (n : ℕ) → n ≤ 32
    → AreSmall (vectors_after plan disabled n)
small-after plan disabled sound n few b =
    let cost = costs-after plan disabled sound n b in omega (arith, cost, few)
