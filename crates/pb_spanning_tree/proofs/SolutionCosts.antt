-- In a solution each bridge has the least cost of a walk to the least root.
use Rattle.std.proofs.Common.{◌≡◌, ◌⊎◌, inl, inr, ℕ, zero, suc, ◌+◌, ◌≤◌, ◌<◌, List, [], ◌∷◌, length, refl, sym, ap}
use Rattle.std.proofs.Common.{◌∙◌, subst, Bool, true, false, ◌==◌, ◌&&◌, ◌||◌, nat_lt, arith, eqb-true}
use Rattle.std.proofs.Common.{eq-eqb, ltb-false}
use Rattle.std.proofs.lemmas.Bool.{eqb-false, or_parts}
use Rattle.pb_lan.specs.Plans.{IsNumber, IsSound}
use Rattle.pb_lan.specs.declared.plan.Plan.{Plan}
use Rattle.pb_lan.specs.declared.plan.End.{End}
use Rattle.pb_lan.proofs.PortsInPlans.{sound-end, end-of-far}
use Rattle.pb_rstp.specs.Profile.{id_in}
use Rattle.pb_rstp.specs.Vectors.{is_better}
use Rattle.pb_rstp.specs.declared.vector.Vector.{Vector}
use Rattle.pb_spanning_tree.specs.Laws.{LeastCost}
use Rattle.pb_spanning_tree.specs.Solutions.{AreSolution, TakesPath}
use Rattle.pb_spanning_tree.specs.TreeOf.{Disabling, own_of, path_over, vector_in}
use Rattle.pb_spanning_tree.specs.Walks.{IsEnabledWalk, walk_cost, IsWithin, Reaches}
use Rattle.pb_spanning_tree.proofs.SolutionLaws.{crossing-known, crosses-taken}

-- what holds of the roots and costs of two vectors, if the second is not better
not-better : (v w : Vector) → is_better w v ≡ false → IsWithin v w.root w.cost
not-better v w h =
    let first = or_parts (nat_lt w.root v.root) _ h in
    record { root = ltb-false w.root v.root first.0; cost = λ same. by_cost (sym same) _ first.1 }
  where
    by_cost : w.root ≡ v.root → (rest : Bool) → (w.root == v.root && (nat_lt w.cost v.cost || rest)) ≡ false
        → v.cost ≤ w.cost
    by_cost same rest e =
        let second : (nat_lt w.cost v.cost || rest) ≡ false =
        sym (ap (λ t. t && (nat_lt w.cost v.cost || rest)) (eq-eqb w.root v.root same)) ∙ e in
        ltb-false w.cost v.cost (or_parts (nat_lt w.cost v.cost) rest second).0

-- The least cost.

-- a link on which a walk goes adds its cost
within-more : (v w : Vector) (id cost more : ℕ) → v.root ≤ w.root → (v.root ≡ w.root → v.cost ≤ w.cost + more)
    → IsWithin w id cost → IsWithin v id (cost + more)
within-more v w id cost more root less far = record {
  root = omega (arith, root, far.root);
  cost = λ same.
      let there : w.root ≡ id = omega (arith, root, far.root, same) in
      let here : v.root ≡ w.root = omega (arith, root, far.root, same) in
      let a = less here in let b = far.cost there in omega (arith, a, b);
}

-- a link from a bridge to itself adds its cost too
within-longer : (v : Vector) (id cost more : ℕ) → IsWithin v id cost → IsWithin v id (cost + more)
within-longer v id cost more h =
    record { root = h.root; cost = λ same. let a = h.cost same in omega (arith, a) }

-- no walk has less cost
least : (plan : Plan) (disabled : Disabling) (vectors : List Vector) → IsSound plan → AreSolution plan disabled vectors
    → (b there : ℕ) (steps : List (End × End)) → IsNumber b (length plan.bridges)
    → IsEnabledWalk plan disabled b steps there
    → IsWithin (vector_in vectors b) (id_in plan there) (walk_cost steps)
least plan disabled vectors sound is b there [] h walk =
    subst (λ n. IsWithin (vector_in vectors b) (id_in plan n) 0) walk
    (not-better (vector_in vectors b) (own_of plan b) (is.least b h).0)
least plan disabled vectors sound is b there ((near, far) ∷ steps) h (number, crosses, from, walk) =
    let known : IsNumber far.bridge (length plan.bridges) = (sound-end plan sound number crosses.link far
    crosses.numbered_so (end-of-far crosses.link near far crosses.ends)).bridge in
    by_bridge (least plan disabled vectors sound is far.bridge there steps known walk) (far.bridge == b) refl
  where
    by_bridge : IsWithin (vector_in vectors far.bridge) (id_in plan there) (walk_cost steps)
        → (t : Bool) → (far.bridge == b) ≡ t
        → IsWithin (vector_in vectors b) (id_in plan there) (walk_cost steps + near.cost)
    by_bridge rest true e =
        let same : far.bridge ≡ b = eqb-true far.bridge b e in
        within-longer (vector_in vectors b) (id_in plan there) (walk_cost steps) near.cost
        (subst (λ c. IsWithin (vector_in vectors c) (id_in plan there) (walk_cost steps)) same rest)
    by_bridge rest false e =
        let path = not-better (vector_in vectors b) (path_over plan vectors near far)
        (crossing-known plan disabled vectors (vector_in vectors b) b number near far crosses from
        (eqb-false far.bridge b e) (is.least b h).1) in
        within-more (vector_in vectors b) (vector_in vectors far.bridge) (id_in plan there) (walk_cost steps) near.cost
        path.root path.cost rest

-- Reaching the root.

-- a walk has the root path cost
reached : (plan : Plan) (disabled : Disabling) (vectors : List Vector) → IsSound plan
    → AreSolution plan disabled vectors
    → (k b : ℕ) → IsNumber b (length plan.bridges) → (vector_in vectors b).cost < k
    → Reaches plan disabled b (vector_in vectors b)
reached plan disabled vectors sound is zero b h less = absurd (omega (arith, less))
reached plan disabled vectors sound is (suc k) b h less =
    by_taken (reached plan disabled vectors sound is k) (is.taken b h)
  where
    by_taken : ((c : ℕ) → IsNumber c (length plan.bridges) → (vector_in vectors c).cost < k
        → Reaches plan disabled c (vector_in vectors c))
        → (vector_in vectors b ≡ own_of plan b) ⊎ TakesPath plan disabled vectors b
        → Reaches plan disabled b (vector_in vectors b)
    by_taken again (inl own) = record {
      there = b;
      steps = [];
      walk = refl;
      root = ap (λ v. v.root) own;
      cost = ap (λ v. v.cost) own;
    }
    by_taken again (inr t) =
        let far = (sound-end plan sound t.number t.link t.far t.at (end-of-far t.link t.near t.far t.ends)).bridge in
        let r = again t.far.bridge far (omega (arith, t.rises, less)) in
        record {
          there = r.there;
          steps = (t.near, t.far) ∷ r.steps;
          walk = (t.number, crosses-taken plan disabled vectors b t, t.from, r.walk);
          root = ap (λ v. v.root) t.vector ∙ r.root;
          cost = ap (λ v. v.cost) t.vector ∙ ap (λ n. n + t.near.cost) r.cost;
        }

-- each bridge has the least cost of a walk to the least root
pub least_cost : LeastCost
least_cost plan disabled vectors sound is b h = record {
  reached = reached plan disabled vectors sound is (suc (vector_in vectors b).cost) b h (omega arith);
  least = λ there steps walk. least plan disabled vectors sound is b there steps h walk;
}
