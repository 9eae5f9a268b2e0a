-- The lanes of a sound plan, and the ports at which they begin and end.
use Rattle.std.proofs.Common.{◌≡◌, ℕ, zero, suc, ◌%◌, ◌<◌, inl, inr, Bool, true, false, if◌then◌else◌, nat_lt, ◌==◌}
use Rattle.std.proofs.Common.{List, [], ◌∷◌, Some, map, slice_get, flat_map, refl, sym, ap, ap₂, subst, ◌∙◌, arith}
use Rattle.std.proofs.Common.{eqb-true}
use Rattle.std.proofs.lemmas.Bool.Decides.{nat_tests}
use Rattle.std.specs.Cmp.Derive.{both_true}
use Rattle.std.specs.List.{IsDistinct}
use Rattle.pb_frame.proofs.Lists.{and-left, and-right, eqb-refl, first-finds, IsDistinct-front, Some-injective}
use Rattle.pb_lan.proofs.PortsInPlans.{port_at-end, end_at, end-link, IsEndOf, end-is-at}
use Rattle.pb_lan.specs.Events.{number_of, link_a, link_b, lane_from, lane_to, begins_at, ends_at}
use Rattle.pb_lan.specs.Numbering.{numbered}
use Rattle.pb_lan.specs.Plans.{IsSound, is_same_port}
use Rattle.pb_lan.specs.Ports.{port_at, is_end_at, ends_of, all_ends}
use Rattle.pb_lan.specs.Ports.Port.{Provider}
use Rattle.pb_lan.specs.Records.{lane_ab, lane_ba}
use Rattle.pb_lan.specs.declared.plan.Plan.{Plan}
use Rattle.pb_lan.specs.declared.plan.End.{End}
use Rattle.pb_lan.specs.declared.plan.LinkPlan.{LinkPlan}
use Rattle.pb_net.specs.Slots.{link_of}
use Rattle.pb_net.proofs.Found.{number_of-cases}

-- two ends of links at one port are the same end
one_end : (plan : Plan) → IsSound plan → (k l : ℕ) (one other : LinkPlan) (d e : End)
    → numbered plan.links k ≡ Some one → numbered plan.links l ≡ Some other
    → IsEndOf one d → IsEndOf other e → d.bridge ≡ e.bridge → d.port ≡ e.port → d ≡ e
one_end plan sound k l one other d e h g x y b q =
    let p = port_at-end plan sound k one d h x in
    let r = port_at-end plan sound l other e g y in
    let same : Provider d ≡ Provider e = sym p ∙ ap (λ n. port_at plan n d.port) b
    ∙ ap (λ n. port_at plan e.bridge n) q ∙ r in
    cc

-- the two ends of a link are at two ports
two_ends : (plan : Plan) → IsSound plan → (n : ℕ) (link : LinkPlan) → numbered plan.links n ≡ Some link
    → link.a.bridge ≡ link.b.bridge → link.a.port ≡ link.b.port → ⊥
unfolding IsDistinct
two_ends plan sound zero link at b q = cc
two_ends plan sound (suc k) link at b q =
    there plan.links k at (IsDistinct-front is_same_port (map (λ e. (e.bridge, e.port)) (all_ends plan))
    (map (λ c. (c.bridge, c.port)) plan.customers) sound.ports)
  where
    clash : (l : LinkPlan) → l ≡ link → is_same_port (l.a.bridge, l.a.port) (l.b.bridge, l.b.port) ≡ false → ⊥
    clash l same apart =
        let t : is_same_port (link.a.bridge, link.a.port) (link.b.bridge, link.b.port) ≡ true =
        both_true (ap (λ n. link.a.bridge == n) (sym b) ∙ eqb-refl link.a.bridge)
        (ap (λ n. link.a.port == n) (sym q) ∙ eqb-refl link.a.port) in
        let f = subst (λ (x : LinkPlan). is_same_port (x.a.bridge, x.a.port) (x.b.bridge, x.b.port) ≡ false) same
        apart in
        cc

    there : (links : List LinkPlan) (i : ℕ) → slice_get links i ≡ Some link
        → IsDistinct is_same_port (map (λ e. (e.bridge, e.port)) (flat_map ends_of links)) → ⊥
    there [] i h d = cc
    there (l ∷ links) zero h d = clash l (Some-injective h) d.0.0
    there (l ∷ links) (suc i) h d = there links i h d.1.1

-- the link with an end on this side is found by that end
number_of-end : (plan : Plan) → IsSound plan → (side : LinkPlan → End) → ((l : LinkPlan) → IsEndOf l (side l))
    → (n : ℕ) (link : LinkPlan) → numbered plan.links n ≡ Some link
    → number_of (λ l. is_end_at (side link).bridge (side link).port (side l)) 1 plan.links ≡ n
number_of-end plan sound side is zero link at = cc
number_of-end plan sound side is (suc k) link at =
    let test : LinkPlan → Bool = (λ l. is_end_at (side link).bridge (side link).port (side l)) in
    elim (number_of-cases test 1 plan.links) [
      | inl none ↦ let some = first-finds test plan.links k link at (end-is-at (side link)) in let wrong = none.1 in
          let right = some.1 in cc
      | inr (i, l, n, g, f, t) ↦
          let one = one_end plan sound (suc i) (suc k) l link (side l) (side link) g at (is l) (is link)
          (eqb-true (side l).bridge (side link).bridge (and-left _ _ t))
          (eqb-true (side l).port (side link).port (and-right _ _ t)) in
          let same = end-link plan sound (suc i) (suc k) l link (side link) g at
          (subst (IsEndOf l) one (is l)) (is link) in
          n ∙ omega (arith, same)
    ]

-- no link has its first end at another's second end
link_a-b : (plan : Plan) → IsSound plan → (n : ℕ) (link : LinkPlan) → numbered plan.links n ≡ Some link
    → link_a plan link.b.bridge link.b.port ≡ 0
link_a-b plan sound zero link at = cc
link_a-b plan sound (suc k) link at =
    elim (number_of-cases (λ (l : LinkPlan). is_end_at link.b.bridge link.b.port l.a) 1 plan.links) [
      | inl none ↦ none.0
      | inr (i, l, n, g, f, t) ↦
          let one = one_end plan sound (suc i) (suc k) l link l.a link.b g at (inl refl) (inr refl)
          (eqb-true l.a.bridge link.b.bridge (and-left _ _ t)) (eqb-true l.a.port link.b.port (and-right _ _ t))
          in
          let same = end-link plan sound (suc i) (suc k) l link link.b g at (inl one) (inr refl) in
          let here : Some l ≡ Some link = sym g ∙ ap (λ (j : ℕ). numbered plan.links j) same ∙ at in
          let it : l ≡ link = Some-injective here in
          let both : link.a ≡ link.b = subst (λ (x : LinkPlan). x.a ≡ link.b) it one in
          absurd (two_ends plan sound (suc k) link at (ap (λ (e : End). e.bridge) both)
          (ap (λ (e : End). e.port) both))
    ]

-- the lane to or from a port: that of the link with its first end there, or of the link with its second end there
abbrev leads : (ℕ → ℕ) → (ℕ → ℕ) → Plan → ℕ → ℕ → ℕ
leads f g plan b q = if nat_lt 0 (link_a plan b q) then f (link_a plan b q) else g (link_b plan b q)

-- the lane at the first end of a link with this number, and at its second end
leads-a : (f g : ℕ → ℕ) (plan : Plan) → IsSound plan → (n : ℕ) (link : LinkPlan) → numbered plan.links n ≡ Some link
    → leads f g plan link.a.bridge link.a.port ≡ f n
leads-a f g plan sound zero link at = cc
leads-a f g plan sound (suc k) link at =
    ap (λ (m : ℕ). if nat_lt 0 m then f m else g (link_b plan link.a.bridge link.a.port))
    (number_of-end plan sound (λ l. l.a) (λ l. inl refl) (suc k) link at) ∙ grind (arith, nat_tests)

leads-b : (f g : ℕ → ℕ) (plan : Plan) → IsSound plan → (n : ℕ) (link : LinkPlan) → numbered plan.links n ≡ Some link
    → leads f g plan link.b.bridge link.b.port ≡ g n
leads-b f g plan sound n link at =
    ap (λ (m : ℕ). if nat_lt 0 m then f m else g (link_b plan link.b.bridge link.b.port))
    (link_a-b plan sound n link at) ∙ ap g (number_of-end plan sound (λ l. l.b) (λ l. inr refl) n link at)

-- a lane is one of the two lanes of its link
odd : (k : ℕ) → (k % 2 == 1) ≡ true → lane_ab (link_of k) ≡ k
odd k e = let one : k % 2 ≡ 1 = eqb-true (k % 2) 1 e in omega arith

even : (k : ℕ) → (k % 2 == 1) ≡ false → lane_ba (link_of k) ≡ k
even k e = let small : k % 2 < 2 = omega arith in let less : k % 2 ≡ 0 = not_one (k % 2) small e in omega arith
  where
    not_one : (m : ℕ) → m < 2 → (m == 1) ≡ false → m ≡ 0
    not_one m h e = grind (arith, h, e)

-- the lane found at the port of a lane's end is that lane, and also at the port of its beginning
pub lane_to-is : (plan : Plan) → IsSound plan → (k : ℕ) (link : LinkPlan)
    → numbered plan.links (link_of k) ≡ Some link → lane_to plan (ends_at k link).bridge (ends_at k link).port ≡ k
lane_to-is plan sound k link at =
    elim (k % 2 == 1) as (λ b. (k % 2 == 1) ≡ b → lane_to plan (if b then link.b else link.a).bridge
    (if b then link.b else link.a).port ≡ k) [
      | true ↦ λ e. leads-b lane_ba lane_ab plan sound (link_of k) link at ∙ odd k e
      | false ↦ λ e. leads-a lane_ba lane_ab plan sound (link_of k) link at ∙ even k e
    ] refl

pub lane_from-is : (plan : Plan) → IsSound plan → (k : ℕ) (link : LinkPlan)
    → numbered plan.links (link_of k) ≡ Some link
    → lane_from plan (begins_at k link).bridge (begins_at k link).port ≡ k
lane_from-is plan sound k link at =
    elim (k % 2 == 1) as (λ b. (k % 2 == 1) ≡ b → lane_from plan (if b then link.a else link.b).bridge
    (if b then link.a else link.b).port ≡ k) [
      | true ↦ λ e. leads-a lane_ab lane_ba plan sound (link_of k) link at ∙ odd k e
      | false ↦ λ e. leads-b lane_ab lane_ba plan sound (link_of k) link at ∙ even k e
    ] refl

-- both ports of a lane are ends of its link
pub ends_at-end : (k : ℕ) (link : LinkPlan) → IsEndOf link (ends_at k link)
ends_at-end k link = elim (k % 2 == 1) as (λ b. IsEndOf link (if b then link.b else link.a))
    [ true ↦ inr refl | false ↦ inl refl ]

pub begins_at-end : (k : ℕ) (link : LinkPlan) → IsEndOf link (begins_at k link)
begins_at-end k link = elim (k % 2 == 1) as (λ b. IsEndOf link (if b then link.a else link.b))
    [ true ↦ inl refl | false ↦ inr refl ]

-- the lanes of the link with this number
pub ab_link : (n : ℕ) → link_of (lane_ab (suc n)) ≡ suc n
ab_link n = omega arith

pub ba_link : (n : ℕ) → link_of (lane_ba (suc n)) ≡ suc n
ba_link n = omega arith

pub ab_odd : (n : ℕ) → (lane_ab (suc n) % 2 == 1) ≡ true
ab_odd n = let one : lane_ab (suc n) % 2 ≡ 1 = omega arith in ap (λ m. m == 1) one

pub ba_even : (n : ℕ) → (lane_ba (suc n) % 2 == 1) ≡ false
ba_even n = let none : lane_ba (suc n) % 2 ≡ 0 = omega arith in ap (λ m. m == 1) none

-- The lanes that `leads` finds at a port, f of a link's number at its first end and g at its second, have their `end`
-- there.
lane-back : (f g : ℕ → ℕ) (end : ℕ → LinkPlan → End)
    → ((n : ℕ) → link_of (f (suc n)) ≡ suc n) → ((n : ℕ) → link_of (g (suc n)) ≡ suc n)
    → ((n : ℕ) (l : LinkPlan) → end (f (suc n)) l ≡ l.a) → ((n : ℕ) (l : LinkPlan) → end (g (suc n)) l ≡ l.b)
    → (plan : Plan) → IsSound plan → (b q k : ℕ) (e : End) (link : LinkPlan) → port_at plan b q ≡ Provider e
    → leads f g plan b q ≡ k → numbered plan.links (link_of k) ≡ Some link
    → ((end k link).bridge ≡ b) × ((end k link).port ≡ q)
lane-back f g end of_f of_g end_f end_g plan sound b q k e link here to at =
    let there = end_at plan b q e here in
    let it = by there.0.0 there.0.1 there.0.2 there.0.3 (ap₂ (leads f g plan) there.1 there.2 ∙ to) in
    (ap (λ (d : End). d.bridge) it ∙ there.1, ap (λ (d : End). d.port) it ∙ there.2)
  where
    of_lane : (j lane : ℕ) (l : LinkPlan) → numbered plan.links (suc j) ≡ Some l → lane ≡ k → link_of lane ≡ suc j
        → end lane l ≡ e → end k link ≡ e
    of_lane j lane l h same n ends =
        let one : l ≡ link = Some-injective (sym h ∙ ap (λ (i : ℕ). numbered plan.links i)
        (sym n ∙ ap link_of same) ∙ at) in
        ap₂ end (sym same) (sym one) ∙ ends

    by : (j : ℕ) (l : LinkPlan) → numbered plan.links (suc j) ≡ Some l → IsEndOf l e
        → leads f g plan e.bridge e.port ≡ k → end k link ≡ e
    by j l h (inl a) leads_on = of_lane j (f (suc j)) l h (sym (leads-a f g plan sound (suc j) l h)
        ∙ ap (λ (d : End). leads f g plan d.bridge d.port) a ∙ leads_on) (of_f j) (end_f j l ∙ a)
    by j l h (inr a) leads_on = of_lane j (g (suc j)) l h (sym (leads-b f g plan sound (suc j) l h)
        ∙ ap (λ (d : End). leads f g plan d.bridge d.port) a ∙ leads_on) (of_g j) (end_g j l ∙ a)

-- a lane that leads to a port ends there
pub lane_to-back : (plan : Plan) → IsSound plan → (b q k : ℕ) (e : End) (link : LinkPlan)
    → port_at plan b q ≡ Provider e → lane_to plan b q ≡ k → numbered plan.links (link_of k) ≡ Some link
    → ((ends_at k link).bridge ≡ b) × ((ends_at k link).port ≡ q)
lane_to-back = lane-back lane_ba lane_ab ends_at ba_link ab_link
    (λ n l. ap (λ (t : Bool). if t then l.b else l.a) (ba_even n))
    (λ n l. ap (λ (t : Bool). if t then l.b else l.a) (ab_odd n))

-- a lane that leads from a port begins there
pub lane_from-back : (plan : Plan) → IsSound plan → (b q k : ℕ) (e : End) (link : LinkPlan)
    → port_at plan b q ≡ Provider e → lane_from plan b q ≡ k → numbered plan.links (link_of k) ≡ Some link
    → ((begins_at k link).bridge ≡ b) × ((begins_at k link).port ≡ q)
lane_from-back = lane-back lane_ab lane_ba begins_at ab_link ba_link
    (λ n l. ap (λ (t : Bool). if t then l.a else l.b) (ab_odd n))
    (λ n l. ap (λ (t : Bool). if t then l.a else l.b) (ba_even n))
