-- The links of a solution join all bridges that enabled links join.
use Rattle.std.proofs.Common.{◌≡◌, ◌⊎◌, inl, inr, ℕ, zero, suc, ◌≤◌, ◌<◌, List, [], ◌∷◌, ◌++◌, Some, length}
use Rattle.std.proofs.Common.{refl, sym, ap, ap₂, ◌∙◌, subst, Bool, true, false, ◌==◌, ◌&&◌, ◌||◌, arith}
use Rattle.std.proofs.lemmas.Bool.{eqb-true, eqb-false, eq-eqb, and_parts}
use Rattle.pb_lan.specs.Forests.{HasEnds, CrossesBy}
use Rattle.pb_lan.specs.Numbering.{numbered}
use Rattle.pb_lan.specs.Plans.{IsNumber, IsSound}
use Rattle.pb_lan.specs.Shapes.{are_ends_forwarding}
use Rattle.pb_lan.specs.declared.plan.Plan.{Plan}
use Rattle.pb_lan.specs.declared.plan.End.{End}
use Rattle.pb_lan.specs.declared.plan.LinkPlan.{LinkPlan}
use Rattle.pb_lan.proofs.Numbers.{numbered-exists}
use Rattle.pb_lan.proofs.PortsInPlans.{sound-end, end-of-near, end-of-far}
use Rattle.pb_rstp.specs.Ports.{Machine}
use Rattle.pb_rstp.specs.Profile.{id_in}
use Rattle.pb_rstp.specs.Tree.{shape_of}
use Rattle.pb_rstp.specs.declared.vector.Vector.{Vector}
use Rattle.pb_spanning_tree.specs.Laws.{ArePlanned, Spans}
use Rattle.pb_spanning_tree.specs.Solutions.{AreSolution, TakesPath}
use Rattle.pb_spanning_tree.specs.TreeOf.{Disabling, end_id, is_enabled, is_link_by, is_root_end, own_of, path_over}
use Rattle.pb_spanning_tree.specs.TreeOf.{vector_in}
use Rattle.pb_spanning_tree.specs.Walks.{IsWalkOver, AreJoinedOver}
use Rattle.pb_spanning_tree.proofs.Facts.{Converged, id_is, one_bridge, vectors_of}
use Rattle.pb_spanning_tree.proofs.Orders.{head_least}
use Rattle.pb_spanning_tree.proofs.SolutionLaws.{crossing-known}
use Rattle.pb_spanning_tree.proofs.Solving.{are_solution}
use Rattle.pb_spanning_tree.proofs.TreeLinks.{link_is}

-- Walks.

-- one walk after another is a walk
joined : (plan : Plan) (passes : LinkPlan → Bool) (b : ℕ) (s : List (End × End)) (c : ℕ) (t : List (End × End)) (d : ℕ)
    → IsWalkOver plan passes b s c → IsWalkOver plan passes c t d → IsWalkOver plan passes b (s ++ t) d
joined plan passes b [] c t d w v = subst (λ x. IsWalkOver plan passes x t d) (sym w) v
joined plan passes b ((near, far) ∷ s) c t d (k, crosses, from, w) v =
    (k, crosses, from, joined plan passes far.bridge s c t d w v)

-- a link leads back too
turned : (plan : Plan) (passes : LinkPlan → Bool) (k : ℕ) (near far : End) → CrossesBy plan passes k near far
    → CrossesBy plan passes k far near
turned plan passes k near far x = record {
  link = x.link;
  numbered_so = x.numbered_so;
  active = x.active;
  ends = elim x.ends [ inl e ↦ inr (e.1, e.0) | inr e ↦ inl (e.1, e.0) ];
}

-- so does a walk
back : (plan : Plan) (passes : LinkPlan → Bool) (b : ℕ) (s : List (End × End)) (c : ℕ) → IsWalkOver plan passes b s c
    → AreJoinedOver plan passes c b
back plan passes b [] c w = ([], sym w)
back plan passes b ((near, far) ∷ s) c (k, crosses, from, w) =
    let r = back plan passes far.bridge s c w in (
      r.0 ++ (far, near) ∷ [],
      joined plan passes c r.0 far.bridge ((far, near) ∷ []) b r.1
          (k, turned plan passes k near far crosses, refl, from),
    )

-- a walk over links that pass one test is one over links that pass another, if the links of the plan that pass the one
-- pass the other
walk_by : (plan : Plan) (passes allows : LinkPlan → Bool)
    → ((k : ℕ) (link : LinkPlan) → numbered plan.links k ≡ Some link → passes link ≡ true → allows link ≡ true)
    → (b : ℕ) (s : List (End × End)) (c : ℕ) → IsWalkOver plan passes b s c → IsWalkOver plan allows b s c
walk_by plan passes allows h b [] c w = w
walk_by plan passes allows h b ((near, far) ∷ s) c (k, x, from, w) = (
  k,
  record {
    link = x.link;
    numbered_so = x.numbered_so;
    active = h k x.link x.numbered_so x.active;
    ends = x.ends;
  },
  from,
  walk_by plan passes allows h far.bridge s c w,
)

-- the bridge at the near end of a crossed link is one of the plan
near_known : (plan : Plan) → IsSound plan → (passes : LinkPlan → Bool) (k : ℕ) (near far : End)
    → CrossesBy plan passes k near far → IsNumber near.bridge (length plan.bridges)
near_known plan sound passes k near far x =
    (sound-end plan sound k x.link near x.numbered_so (end-of-near x.link near far x.ends)).bridge

-- so is the bridge to which a walk leads
end_known : (plan : Plan) → IsSound plan → (passes : LinkPlan → Bool) (b : ℕ) (s : List (End × End)) (c : ℕ)
    → IsNumber b (length plan.bridges) → IsWalkOver plan passes b s c → IsNumber c (length plan.bridges)
end_known plan sound passes b [] c h w = subst (λ x. IsNumber x (length plan.bridges)) w h
end_known plan sound passes b ((near, far) ∷ s) c h (k, x, from, w) =
    end_known plan sound passes far.bridge s c
    (near_known plan sound passes k far near (turned plan passes k near far x)) w

-- Roots.

-- the root of a bridge is at most that of one to which an enabled link leads
root_least : (plan : Plan) (disabled : Disabling) (vectors : List Vector) → IsSound plan
    → AreSolution plan disabled vectors → (k : ℕ) (near far : End) → CrossesBy plan (is_enabled disabled) k near far
    → (vector_in vectors near.bridge).root ≤ (vector_in vectors far.bridge).root
root_least plan disabled vectors sound is k near far x = by_test (far.bridge == near.bridge) refl
  where
    v : Vector
    v = vector_in vectors near.bridge

    path : Vector
    path = path_over plan vectors near far

    by_test : (t : Bool) → (far.bridge == near.bridge) ≡ t
        → (vector_in vectors near.bridge).root ≤ (vector_in vectors far.bridge).root
    by_test true e =
        let same = ap (λ b. (vector_in vectors b).root) (eqb-true far.bridge near.bridge e) in omega (arith, same)
    by_test false e =
        head_least path.root v.root (path.cost ∷ path.bridge ∷ path.port ∷ path.receiving ∷ [])
        (v.cost ∷ v.bridge ∷ v.port ∷ v.receiving ∷ [])
        (crossing-known plan disabled vectors v near.bridge k near far x refl (eqb-false far.bridge near.bridge e)
        (is.least near.bridge (near_known plan sound (is_enabled disabled) k near far x)).1)

-- bridges that a walk over enabled links joins have one root
one_root : (plan : Plan) (disabled : Disabling) (vectors : List Vector) → IsSound plan
    → AreSolution plan disabled vectors → (b : ℕ) (s : List (End × End)) (c : ℕ)
    → IsWalkOver plan (is_enabled disabled) b s c → (vector_in vectors b).root ≡ (vector_in vectors c).root
one_root plan disabled vectors sound is b [] c w = ap (λ x. (vector_in vectors x).root) w
one_root plan disabled vectors sound is b ((near, far) ∷ s) c (k, x, from, w) =
    let forth = root_least plan disabled vectors sound is k near far x in
    let back = root_least plan disabled vectors sound is k far near
    (turned plan (is_enabled disabled) k near far x) in
    let here = ap (λ y. (vector_in vectors y).root) from in
    let rest = one_root plan disabled vectors sound is far.bridge s c w in
    omega (arith, forth, back, here, rest)

-- one end of a link is the Root end if the near one is
root_either : (vectors : List Vector) (link : LinkPlan) (near far : End) → HasEnds link near far
    → is_root_end vectors near ≡ true → (is_root_end vectors link.a || is_root_end vectors link.b) ≡ true
root_either vectors link near far (inl e) h =
    ap (λ t. t || is_root_end vectors link.b) (ap (is_root_end vectors) e.0 ∙ h)
root_either vectors link near far (inr e) h =
    second (is_root_end vectors link.a) (is_root_end vectors link.b) (ap (is_root_end vectors) e.0 ∙ h)
  where
    second : (s t : Bool) → t ≡ true → (s || t) ≡ true
    second true t g = refl
    second false t g = g

-- the link of the path that a bridge takes is one of the solution's
taken_link : (plan : Plan) (disabled : Disabling) (vectors : List Vector) (b : ℕ)
    → (t : TakesPath plan disabled vectors b) → CrossesBy plan (is_link_by disabled vectors) t.number t.near t.far
taken_link plan disabled vectors b t =
    let receiving : (vector_in vectors t.near.bridge).receiving ≡ end_id t.near =
    ap (λ x. (vector_in vectors x).receiving) t.from ∙ ap (λ (v : Vector). v.receiving) t.vector in
    record {
      link = t.link;
      numbered_so = t.at;
      active = ap₂ (λ x y. x && y) t.enabled
          (root_either vectors t.link t.near t.far t.ends
          (eq-eqb (vector_in vectors t.near.bridge).receiving (end_id t.near) receiving));
      ends = t.ends;
    }

-- links of the solution lead from a bridge to the one that has its root's identifier
record Tops (plan : Plan) (disabled : Disabling) (vectors : List Vector) (b : ℕ) : Type 0 where
  there : ℕ
  number : IsNumber there (length plan.bridges)
  walk : AreJoinedOver plan (is_link_by disabled vectors) b there
  root : (vector_in vectors b).root ≡ id_in plan there

-- they do from each bridge
tops : (plan : Plan) (disabled : Disabling) (vectors : List Vector) → IsSound plan → AreSolution plan disabled vectors
    → (k b : ℕ) → IsNumber b (length plan.bridges) → (vector_in vectors b).cost < k → Tops plan disabled vectors b
tops plan disabled vectors sound is zero b h less = absurd (omega (arith, less))
tops plan disabled vectors sound is (suc k) b h less = by_taken (tops plan disabled vectors sound is k) (is.taken b h)
  where
    by_taken : ((c : ℕ) → IsNumber c (length plan.bridges) → (vector_in vectors c).cost < k
        → Tops plan disabled vectors c)
        → (vector_in vectors b ≡ own_of plan b) ⊎ TakesPath plan disabled vectors b → Tops plan disabled vectors b
    by_taken again (inl own) =
        record { there = b; number = h; walk = ([], refl); root = ap (λ (v : Vector). v.root) own }
    by_taken again (inr t) =
        let far = (sound-end plan sound t.number t.link t.far t.at (end-of-far t.link t.near t.far t.ends)).bridge in
        let r = again t.far.bridge far (omega (arith, t.rises, less)) in
        record {
          there = r.there;
          number = r.number;
          walk = ((t.near, t.far) ∷ r.walk.0, (t.number, taken_link plan disabled vectors b t, t.from, r.walk.1));
          root = ap (λ (v : Vector). v.root) t.vector ∙ r.root;
        }

-- no two bridges of the plan have one identifier
abbrev HaveOwnIds : Plan → Type 0
HaveOwnIds plan =
    (b c : ℕ) → IsNumber b (length plan.bridges) → IsNumber c (length plan.bridges) → id_in plan b ≡ id_in plan c
    → b ≡ c

-- links of the solution join all bridges that enabled links join
tree_joins : (plan : Plan) (disabled : Disabling) (vectors : List Vector) → IsSound plan
    → AreSolution plan disabled vectors → HaveOwnIds plan → (here there : ℕ) (s : List (End × End))
    → IsWalkOver plan (is_enabled disabled) here s there
    → AreJoinedOver plan (is_link_by disabled vectors) here there
tree_joins plan disabled vectors sound is own here there [] w = ([], w)
tree_joins plan disabled vectors sound is own here there ((near, far) ∷ s) (k, x, from, w) =
    let passes = is_link_by disabled vectors in
    let steps = (near, far) ∷ s in
    let h : IsNumber here (length plan.bridges) = subst (λ y. IsNumber y (length plan.bridges)) from
    (near_known plan sound (is_enabled disabled) k near far x) in
    let g = end_known plan sound (is_enabled disabled) here steps there h (k, x, from, w) in
    let up = tops plan disabled vectors sound is (suc (vector_in vectors here).cost) here h (omega arith) in
    let other = tops plan disabled vectors sound is (suc (vector_in vectors there).cost) there g (omega arith) in
    let root = one_root plan disabled vectors sound is here steps there (k, x, from, w) in
    let top : up.there ≡ other.there = own up.there other.there up.number other.number
    (sym up.root ∙ root ∙ other.root) in
    let down = back plan passes there other.walk.0 other.there other.walk.1 in (
      up.walk.0 ++ down.0,
      joined plan passes here up.walk.0 up.there down.0 there up.walk.1
          (subst (λ y. IsWalkOver plan passes y down.0 there) (sym top) down.1),
    )

-- no two bridges have one identifier
own_ids : (plan : Plan) (machines : List Machine) → ArePlanned plan machines → HaveOwnIds plan
own_ids plan machines planned b c h g e =
    let P : ℕ → ℕ → Type 0 = λ x n. IsNumber x n in
    let m = numbered-exists machines b (subst (P b) (sym planned.machines_are.count) h) in
    let n = numbered-exists machines c (subst (P c) (sym planned.machines_are.count) g) in
    one_bridge plan machines planned b c m.0 n.0 m.1 n.1
    (sym (id_is plan machines planned b m.0 m.1) ∙ e ∙ id_is plan machines planned c n.0 n.1)

-- links whose two ends are Forwarding join exactly the bridges that enabled links join
pub spans : Spans
spans plan machines disabled sound planned down converged none_held here there = (
  λ w.
      let t = tree_joins plan disabled (vectors_of machines) sound (are_solution plan machines disabled c)
      (own_ids plan machines planned) here there w.0 w.1 in (
        t.0,
        walk_by plan (is_link_by disabled (vectors_of machines)) forwards
            (λ k link at e. link_is plan machines disabled c k link at ∙ e) here t.0 there t.1,
      ),
  λ w. (
    w.0,
    walk_by plan forwards (is_enabled disabled)
        (λ k link at e. (and_parts (is_enabled disabled link)
        (is_root_end (vectors_of machines) link.a || is_root_end (vectors_of machines) link.b)
        (sym (link_is plan machines disabled c k link at) ∙ e)).0) here w.0 there w.1,
  ),
)
  where
    forwards : LinkPlan → Bool
    forwards = are_ends_forwarding (shape_of plan machines)

    c : Converged plan machines disabled
    c = record {
      sound = sound;
      planned = planned;
      down = down;
      converged = converged;
      none_held = none_held;
    }
