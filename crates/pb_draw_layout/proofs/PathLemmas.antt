-- The links on the paths between the customer ports of a service, from marks.
use Rattle.std.proofs.Common.{◌≡◌, ◌≢◌, ◌⊎◌, ◌↔◌, inl, inr, ◌<◌, ◌≤◌, ◌+◌, ℕ, zero, suc, Bool, true, false, ◌&&◌, ◌||◌}
use Rattle.std.proofs.Common.{◌==◌, nat_le, Some}
use Rattle.std.proofs.Common.{List, [], ◌∷◌, ◌++◌, length, slice_get, cond, refl, sym, ap, subst, ◌∙◌, arith}
use Rattle.std.proofs.lemmas.Bool.{and_from, cases_lt, eqb-true, eq-eqb, leb-true, le-leb}
use Rattle.std.proofs.lemmas.List.Folds.{list_any-append}
use Rattle.std.proofs.lemmas.Option.{slice_get_within}
use Rattle.pb_forest.specs.ServiceVids.{vid_numbered}
use Rattle.pb_frame.proofs.Counting.{any-count, count-any}
use Rattle.pb_frame.proofs.Lists.{and-left, and-right, list_any-at, Some-injective, true-false}
use Rattle.pb_joins.proofs.JoinLemmas.{customer_number, end_number}
use Rattle.pb_joins.specs.Joins.{TellsJoined, mark_at}
use Rattle.pb_lan.proofs.Numbers.{numbered-place}
use Rattle.pb_lan.specs.Numbering.{numbered}
use Rattle.pb_lan.specs.Plans.{IsSound, IsNumber}
use Rattle.pb_lan.specs.Shapes.{is_active}
use Rattle.pb_lan.specs.declared.plan.Plan.{Plan}
use Rattle.pb_lan.specs.declared.plan.LinkPlan.{LinkPlan}
use Rattle.pb_lan.specs.declared.plan.CustomerPlan.{CustomerPlan}
use Rattle.pb_lan.specs.declared.shape.Shape.{Shape}
use Rattle.pb_draw_layout.specs.Facts.{is_among}
use Rattle.pb_draw_layout.specs.Paths.{is_other, is_site_at, sites_at, needed_sites, ReachesSite, IsOnPath, AreLit}
use Rattle.pb_draw_layout.proofs.PairLemmas.{any_where, two_of, two_count}

-- the ends of the link with a number are at bridges 1 to 32
pub ends_within : (plan : Plan) → IsSound plan → (number : ℕ) (link : LinkPlan) → numbered plan.links number ≡ Some link
    → IsNumber link.a.bridge 32 × IsNumber link.b.bridge 32
ends_within plan sound number link at =
    let (k, _, there) = numbered-place plan.links number link at in
    end_number plan sound k link there

-- a customer port at a bridge with a mark
marked : (marks : List ℕ) (service mark : ℕ) (c : CustomerPlan) → is_site_at marks service mark c ≡ true
    → mark_at marks c.bridge ≡ mark
marked marks service mark c of_c = eqb-true (mark_at marks c.bridge) mark
    (and-right (c.service == service) (mark_at marks c.bridge == mark) of_c)

-- a customer port with the mark of a bridge is joined to it
abbrev reaches_from : (plan : Plan) (test : LinkPlan → Bool) (marks : List ℕ) (service bridge k : ℕ) (c : CustomerPlan)
    → IsSound plan → IsNumber bridge 32 → TellsJoined plan test marks → slice_get plan.customers k ≡ Some c
    → is_site_at marks service (mark_at marks bridge) c ≡ true → ReachesSite plan test service bridge
reaches_from plan test marks service bridge k c sound in_b tells at of_c = record {
  number = suc k;
  site = c;
  planned = at;
  served = eqb-true c.service service
      (and-left (c.service == service) (mark_at marks c.bridge == mark_at marks bridge) of_c);
  joined = (tells bridge c.bridge in_b (customer_number plan sound k c at)).0 (sym (marked marks service
      (mark_at marks bridge) c of_c));
}

-- a customer port that is joined to a bridge has its mark
reaches_to : (plan : Plan) (test : LinkPlan → Bool) (marks : List ℕ) (service bridge : ℕ) → IsSound plan
    → IsNumber bridge 32 → TellsJoined plan test marks → (r : ReachesSite plan test service bridge)
    → (k : ℕ) × (r.number ≡ suc k) × (slice_get plan.customers k ≡ Some r.site)
    × (is_site_at marks service (mark_at marks bridge) r.site ≡ true)
reaches_to plan test marks service bridge sound in_b tells r =
    let (k, is, at_c) = numbered-place plan.customers r.number r.site r.planned in
    let in_c = customer_number plan sound k r.site at_c in (
      k,
      is,
      at_c,
      and_from (r.site.service == service) (mark_at marks r.site.bridge == mark_at marks bridge)
          (eq-eqb r.site.service service r.served)
          (eq-eqb (mark_at marks r.site.bridge) (mark_at marks bridge)
          (sym ((tells bridge r.site.bridge in_b in_c).1 r.joined))),
    )

-- what is asked of the customer ports at both ends of a link
record AreReached (plan : Plan) (test : LinkPlan → Bool) (service : ℕ) (link : LinkPlan) : Type 0 where
  pub a : ReachesSite plan test service link.a.bridge
  pub b : ReachesSite plan test service link.b.bridge
  pub two : a.number ≢ b.number

-- customer ports at bridges with different marks are different ones
differ : (plan : Plan) (marks : List ℕ) (service m n i j : ℕ) (x y : CustomerPlan) → (m == n) ≡ false
    → slice_get plan.customers i ≡ Some x → slice_get plan.customers j ≡ Some y → is_site_at marks service m x ≡ true
    → is_site_at marks service n y ≡ true → i ≡ j → ⊥
differ plan marks service m n i j x y e at_x at_y of_x of_y same =
    let one = Some-injective (sym at_x ∙ ap (slice_get plan.customers) same ∙ at_y) in
    let marked_n = subst (λ c. is_site_at marks service n c ≡ true) (sym one) of_y in
    true-false (m == n) (eq-eqb m n (sym (marked marks service m x of_x) ∙ marked marks service n x marked_n)) e

-- enough customer ports are at the marks of the link's bridges: two different ones are reached
reached_from : (plan : Plan) (test : LinkPlan → Bool) (marks : List ℕ) (service : ℕ) (link : LinkPlan) → IsSound plan
    → IsNumber link.a.bridge 32 → IsNumber link.b.bridge 32 → TellsJoined plan test marks
    → needed_sites (mark_at marks link.a.bridge) (mark_at marks link.b.bridge)
    ≤ sites_at plan marks service (mark_at marks link.a.bridge)
    → needed_sites (mark_at marks link.a.bridge) (mark_at marks link.b.bridge)
    ≤ sites_at plan marks service (mark_at marks link.b.bridge)
    → AreReached plan test service link
reached_from plan test marks service link sound in_a in_b tells many_a many_b =
    let m = mark_at marks link.a.bridge in
    let n = mark_at marks link.b.bridge in
    elim (m == n) as (λ t. (m == n) ≡ t → cond t 2 1 ≤ sites_at plan marks service m
    → cond t 2 1 ≤ sites_at plan marks service n → AreReached plan test service link) [
      | true ↦ λ e p q.
          let two = two_of (is_site_at marks service m) plan.customers p in
          record {
            a = reaches_from plan test marks service link.a.bridge two.i two.x sound in_a tells two.x_at
                two.x_passes;
            b = reaches_from plan test marks service link.b.bridge two.j two.y sound in_b tells two.y_at
                (subst (λ k. is_site_at marks service k two.y ≡ true) (eqb-true m n e) two.y_passes);
            two = λ same. let less = two.below in absurd (omega (arith, same, less));
          }
      | false ↦ λ e p q.
          let (i, x, at_x, of_x) = any_where (is_site_at marks service m) plan.customers
          (any-count (is_site_at marks service m) plan.customers p) in
          let (j, y, at_y, of_y) = any_where (is_site_at marks service n) plan.customers
          (any-count (is_site_at marks service n) plan.customers q) in
          record {
            a = reaches_from plan test marks service link.a.bridge i x sound in_a tells at_x of_x;
            b = reaches_from plan test marks service link.b.bridge j y sound in_b tells at_y of_y;
            two = λ same. differ plan marks service m n i j x y e at_x at_y of_x of_y (omega (arith, same));
          }
    ] refl many_a many_b

-- two different customer ports are reached: enough are at the marks of the link's bridges
reached_to : (plan : Plan) (test : LinkPlan → Bool) (marks : List ℕ) (service : ℕ) (link : LinkPlan) → IsSound plan
    → IsNumber link.a.bridge 32 → IsNumber link.b.bridge 32 → TellsJoined plan test marks
    → AreReached plan test service link
    → (needed_sites (mark_at marks link.a.bridge) (mark_at marks link.b.bridge)
    ≤ sites_at plan marks service (mark_at marks link.a.bridge))
    × (needed_sites (mark_at marks link.a.bridge) (mark_at marks link.b.bridge)
    ≤ sites_at plan marks service (mark_at marks link.b.bridge))
reached_to plan test marks service link sound in_a in_b tells r =
    let m = mark_at marks link.a.bridge in
    let n = mark_at marks link.b.bridge in
    let (i, is_i, at_x, of_x) = reaches_to plan test marks service link.a.bridge sound in_a tells r.a in
    let (j, is_j, at_y, of_y) = reaches_to plan test marks service link.b.bridge sound in_b tells r.b in
    elim (m == n) as (λ t. (m == n) ≡ t → (cond t 2 1 ≤ sites_at plan marks service m)
    × (cond t 2 1 ≤ sites_at plan marks service n)) [
      | true ↦ λ e.
          let same = eqb-true m n e in
          let of_y' = subst (λ k. is_site_at marks service k r.b.site ≡ true) (sym same) of_y in
          let two = two_count (is_site_at marks service m) plan.customers i j r.a.site r.b.site at_x at_y of_x of_y'
          (λ e. r.two (is_i ∙ ap suc e ∙ sym is_j)) in
          (two, subst (λ k. 2 ≤ sites_at plan marks service k) same two)
      | false ↦ λ e. (
        count-any (is_site_at marks service m) plan.customers
            (list_any-at (is_site_at marks service m) plan.customers i r.a.site at_x of_x),
        count-any (is_site_at marks service n) plan.customers
            (list_any-at (is_site_at marks service n) plan.customers j r.b.site at_y of_y),
      )
    ] refl

-- a link is on a path if and only if it is active and enough customer ports are at the marks of both its bridges
pub path_iff : (plan : Plan) (shape : Shape) (service : ℕ) (link : LinkPlan) (marks : List ℕ) (active : Bool)
    (a b needed : ℕ)
    → IsSound plan → IsNumber link.a.bridge 32 → IsNumber link.b.bridge 32
    → TellsJoined plan (is_other plan shape (vid_numbered plan service) link) marks
    → active ≡ is_active plan shape (vid_numbered plan service) link
    → a ≡ sites_at plan marks service (mark_at marks link.a.bridge)
    → b ≡ sites_at plan marks service (mark_at marks link.b.bridge)
    → needed ≡ needed_sites (mark_at marks link.a.bridge) (mark_at marks link.b.bridge)
    → (((active && nat_le needed a) && nat_le needed b) ≡ true) ↔ IsOnPath plan shape service link
path_iff plan shape service link marks active a b needed sound in_a in_b tells is_active_so many_a many_b needs =
    let test = is_other plan shape (vid_numbered plan service) link in (
      λ h.
          let first = and-left (active && nat_le needed a) (nat_le needed b) h in
          let enough_a = leb-true needed a (and-right active (nat_le needed a) first) in
          let enough_b = leb-true needed b (and-right (active && nat_le needed a) (nat_le needed b) h) in
          let r = reached_from plan test marks service link sound in_a in_b tells
          (subst (λ k. k ≤ sites_at plan marks service (mark_at marks link.a.bridge)) needs
          (subst (λ k. needed ≤ k) many_a enough_a))
          (subst (λ k. k ≤ sites_at plan marks service (mark_at marks link.b.bridge)) needs
          (subst (λ k. needed ≤ k) many_b enough_b)) in
          record {
            active = sym is_active_so ∙ and-left active (nat_le needed a) first;
            a = r.a;
            b = r.b;
            two = r.two;
          },
      λ p.
          let r = reached_to plan test marks service link sound in_a in_b tells
          (record { a = p.a; b = p.b; two = p.two }) in
          and_from (active && nat_le needed a) (nat_le needed b)
          (and_from active (nat_le needed a) (is_active_so ∙ p.active)
          (le-leb needed a (subst (λ k. needed ≤ k) (sym many_a) (subst (λ k. k
          ≤ sites_at plan marks service (mark_at marks link.a.bridge)) (sym needs) r.0))))
          (le-leb needed b (subst (λ k. needed ≤ k) (sym many_b) (subst (λ k. k
          ≤ sites_at plan marks service (mark_at marks link.b.bridge)) (sym needs) r.1))),
    )

-- of the first links those are lit that are on paths, and no others
pub record LitFirst (plan : Plan) (shape : Shape) (service count : ℕ) (lit : List ℕ) : Type 0 where
  pub first : (number : ℕ) (link : LinkPlan) → number ≤ count → numbered plan.links number ≡ Some link
      → (is_among lit number ≡ true) ↔ IsOnPath plan shape service link
  pub rest : (number : ℕ) → count < number → is_among lit number ≡ false

-- no link has number 0
pub lit_none : (plan : Plan) (shape : Shape) (service : ℕ) → LitFirst plan shape service 0 []
lit_none plan shape service =
    record { first = λ number link few at. none number link few at; rest = λ number more. refl }
  where
    none : (number : ℕ) (link : LinkPlan) → number ≤ 0 → numbered plan.links number ≡ Some link
        → (is_among [] number ≡ true) ↔ IsOnPath plan shape service link
    none zero link few at = cc
    none (suc k) link few at = absurd (omega (arith, few))

-- one more number
among_more : (lit : List ℕ) (m n : ℕ) → is_among (lit ++ m ∷ []) n ≡ (is_among lit n || (m == n))
among_more lit m n = list_any-append (λ one. one == n) lit (m ∷ [])
    ∙ ap (λ z. is_among lit n || z) (or-false (m == n))
  where
    or-false : (b : Bool) → (b || false) ≡ b
    or-false true = refl
    or-false false = refl

-- a number is not equal to a greater one
apart : (m n : ℕ) → n < m → (m == n) ≡ false
apart m n less = elim (m == n) as (λ t. (m == n) ≡ t → t ≡ false)
    [ true ↦ λ e. absurd (let same = eqb-true m n e in omega (arith, same, less)) | false ↦ λ e. refl ] refl

-- two tests, of which the second fails
or-left-only : (a b : Bool) → b ≡ false → (a || b) ≡ a
or-left-only true b e = refl
or-left-only false b e = e

-- one link more: its number is kept if it is on a path
pub lit_more : (plan : Plan) (shape : Shape) (service k : ℕ) (lit more : List ℕ) (yes : Bool)
    → LitFirst plan shape service k lit
    → ((link : LinkPlan) → numbered plan.links (k + 1) ≡ Some link → (yes ≡ true) ↔ IsOnPath plan shape service link)
    → more ≡ cond yes (lit ++ (k + 1) ∷ []) lit
    → LitFirst plan shape service (k + 1) more
lit_more plan shape service k lit more true so_far told is = subst (LitFirst plan shape service (k + 1)) (sym is)
    record {
      first = λ number link few at. by number link at (cases_lt k number) few;
      rest = λ number above.
          let past = so_far.rest number (omega (arith, above)) in
          among_more lit (k + 1) number ∙ or-both _ _ past (other number above);
    }
  where
    other : (number : ℕ) → k + 1 < number → ((k + 1) == number) ≡ false
    other number above = elim ((k + 1) == number) as (λ t. ((k + 1) == number) ≡ t → t ≡ false) [
      | true ↦ λ e. absurd (let same = eqb-true (k + 1) number e in omega (arith, same, above))
      | false ↦ λ e.
          refl
    ] refl

    or-both : (a b : Bool) → a ≡ false → b ≡ false → (a || b) ≡ false
    or-both a b e f = cc

    by : (number : ℕ) (link : LinkPlan) → numbered plan.links number ≡ Some link → (k < number) ⊎ (number ≤ k)
        → number ≤ k + 1 → (is_among (lit ++ (k + 1) ∷ []) number ≡ true) ↔ IsOnPath plan shape service link
    by number link at (inr old) few =
        let same = among_more lit (k + 1) number
        ∙ or-left-only (is_among lit number) ((k + 1) == number) (apart (k + 1) number (omega (arith, old))) in
        let both = so_far.first number link old at in
        (λ h. both.0 (sym same ∙ h), λ p. same ∙ both.1 p)
    by number link at (inl new) few =
        let one : number ≡ k + 1 = omega (arith, new, few) in
        let both = told link (subst (λ n. numbered plan.links n ≡ Some link) one at) in
        let there : is_among (lit ++ (k + 1) ∷ []) number ≡ true = among_more lit (k + 1) number
        ∙ ends (is_among lit number) ((k + 1) == number) (eq-eqb (k + 1) number (sym one)) in
        (λ h. both.0 refl, λ p. there)
      where
        ends : (a b : Bool) → b ≡ true → (a || b) ≡ true
        ends true b e = refl
        ends false b e = e
lit_more plan shape service k lit more false so_far told is = subst (LitFirst plan shape service (k + 1)) (sym is)
    record {
      first = λ number link few at. by number link at (cases_lt k number) few;
      rest = λ number above. so_far.rest number (omega (arith, above));
    }
  where
    by : (number : ℕ) (link : LinkPlan) → numbered plan.links number ≡ Some link → (k < number) ⊎ (number ≤ k)
        → number ≤ k + 1 → (is_among lit number ≡ true) ↔ IsOnPath plan shape service link
    by number link at (inr old) few = so_far.first number link old at
    by number link at (inl new) few =
        let one : number ≡ k + 1 = omega (arith, new, few) in
        let both = told link (subst (λ n. numbered plan.links n ≡ Some link) one at) in
        let past = so_far.rest number new in
        (λ h. absurd cc, λ p. absurd (let no = both.1 p in cc))

-- all links
pub lit_all : (plan : Plan) (shape : Shape) (service count : ℕ) (lit : List ℕ) → length plan.links ≤ count
    → LitFirst plan shape service count lit → AreLit plan shape service lit
lit_all plan shape service count lit many so_far = λ number link at.
    let (k, is, there) = numbered-place plan.links number link at in
    let within = slice_get_within plan.links k link there in
    so_far.first number link (omega (arith, is, within, many)) at
