-- Paths over links, and marks for the bridges that they join.
use Rattle.std.proofs.Common.{◌≡◌, ◌⊎◌, inl, inr, ℕ, suc, ◌+◌, ◌-◌, ◌<◌, ◌≤◌, Bool, true, false, cond, Some}
use Rattle.std.proofs.Common.{List, [], ◌∷◌, ◌++◌, length, map, get_or, refl, sym, ◌∙◌, ap, subst, arith, nat_eq}
use Rattle.std.proofs.Common.{slice_get, zero-add}
use Rattle.std.proofs.lemmas.Bool.Decides.{nat_tests}
use Rattle.std.proofs.lemmas.List.{get_or-map, get_or_past, length-map}
use Rattle.std.proofs.lemmas.Option.{slice_get-get_or, slice_get_within}
use Rattle.std.proofs.lemmas.List.FromFn.{get_or-range_with_len, length-range_with_len}
use Rattle.std.specs.List.{range_with_len}
use Rattle.std.proofs.lemmas.Bool.{cases_lt}
use Rattle.pb_frame.proofs.Lists.{All-at, Some-injective}
use Rattle.pb_frame.proofs.Things.{one_less}
use Rattle.pb_lan.proofs.ForestEdges.{turned}
use Rattle.pb_lan.proofs.Numbers.{numbered-place}
use Rattle.pb_lan.proofs.PortsInPlans.{sound-end}
use Rattle.pb_lan.specs.Forests.{CrossesBy, HasEnds}
use Rattle.pb_lan.specs.Plans.{IsSound, IsNumber, IsSoundCustomer, IsSoundEnd}
use Rattle.pb_lan.specs.declared.plan.Plan.{Plan}
use Rattle.pb_lan.specs.declared.plan.CustomerPlan.{CustomerPlan}
use Rattle.pb_lan.specs.declared.plan.End.{End}
use Rattle.pb_lan.specs.declared.plan.LinkPlan.{LinkPlan}
use Rattle.pb_joins.specs.Joins.{Leads, AreJoined, mark_at, TellsJoined}

-- a path, and another one from its end
pub leads-append : (plan : Plan) (test : LinkPlan → Bool) (here : ℕ) (ks : List ℕ) (there : ℕ) (ls : List ℕ) (last : ℕ)
    → Leads plan test here ks there → Leads plan test there ls last
    → Leads plan test here (ks ++ ls) last
leads-append plan test here [] there ls last w v = subst (λ z. Leads plan test z ls last) (sym w) v
leads-append plan test here (k ∷ ks) there ls last (near, far, c, n, w) v =
    (near, far, c, n, leads-append plan test far.bridge ks there ls last w v)

-- a link leads in both directions
pub crosses_back : (plan : Plan) (test : LinkPlan → Bool) (k : ℕ) (near far : End) → CrossesBy plan test k near far
    → CrossesBy plan test k far near
crosses_back plan test k near far c = record {
  link = c.link;
  numbered_so = c.numbered_so;
  active = c.active;
  ends = turned c.link near far c.ends;
}

pub joined_through : (plan : Plan) (test : LinkPlan → Bool) (a b c : ℕ) → AreJoined plan test a b
    → AreJoined plan test b c → AreJoined plan test a c
joined_through plan test a b c (ks, w) (ls, v) = (ks ++ ls, leads-append plan test a ks b ls c w v)

walk_back : (plan : Plan) (test : LinkPlan → Bool) (a : ℕ) (ks : List ℕ) (b : ℕ) → Leads plan test a ks b
    → AreJoined plan test b a
walk_back plan test a [] b w = ([], sym w)
walk_back plan test a (k ∷ ks) b (near, far, c, n, w) =
    joined_through plan test b far.bridge a (walk_back plan test far.bridge ks b w)
    (k ∷ [], (far, near, crosses_back plan test k near far c, refl, n))

pub joined_back : (plan : Plan) (test : LinkPlan → Bool) (a b : ℕ) → AreJoined plan test a b
    → AreJoined plan test b a
joined_back plan test a b (ks, w) = walk_back plan test a ks b w

-- an active link joins its bridges
pub joined_by : (plan : Plan) (test : LinkPlan → Bool) (k : ℕ) (link : LinkPlan) → slice_get plan.links k ≡ Some link
    → test link ≡ true
    → AreJoined plan test link.a.bridge link.b.bridge
joined_by plan test k link e active = (
  suc k ∷ [],
  (
    link.a,
    link.b,
    record { link = link; numbered_so = e; active = active; ends = inl (refl, refl) },
    refl,
    refl,
  ),
)

-- each active link among the first count has one mark at both its ends
pub record CloseFirst (plan : Plan) (test : LinkPlan → Bool) (count : ℕ) (marks : List ℕ) : Type 0 where
  pub close : (k : ℕ) (link : LinkPlan) → k < count → slice_get plan.links k ≡ Some link
      → test link ≡ true
      → mark_at marks link.a.bridge ≡ mark_at marks link.b.bridge

-- bridges with one mark are joined
pub record MarkJoined (plan : Plan) (test : LinkPlan → Bool) (marks : List ℕ) : Type 0 where
  pub joins : (a b : ℕ) → IsNumber a 32 → IsNumber b 32 → mark_at marks a ≡ mark_at marks b
      → AreJoined plan test a b

marked_walk : (plan : Plan) (test : LinkPlan → Bool) (marks : List ℕ)
    → CloseFirst plan test (length plan.links) marks
    → (a : ℕ) (ks : List ℕ) (b : ℕ) → Leads plan test a ks b → mark_at marks a ≡ mark_at marks b
marked_walk plan test marks all a [] b w = ap (mark_at marks) w
marked_walk plan test marks all a (k ∷ ks) b (near, far, c, n, w) =
    ap (mark_at marks) (sym n) ∙ across c.ends ∙ marked_walk plan test marks all far.bridge ks b w
  where
    place : (j : ℕ) × (k ≡ suc j) × (slice_get plan.links j ≡ Some c.link)
    place = numbered-place plan.links k c.link c.numbered_so

    both : mark_at marks c.link.a.bridge ≡ mark_at marks c.link.b.bridge
    both = all.close place.0 c.link (slice_get_within plan.links place.0 c.link place.2) place.2 c.active

    across : HasEnds c.link near far → mark_at marks near.bridge ≡ mark_at marks far.bridge
    across (inl h) = ap (λ e. mark_at marks e.bridge) (sym h.0) ∙ both ∙ ap (λ e. mark_at marks e.bridge) h.1
    across (inr h) = ap (λ e. mark_at marks e.bridge) (sym h.0) ∙ sym both ∙ ap (λ e. mark_at marks e.bridge) h.1

-- if all active links have one mark at both ends, and bridges with one mark are joined, the marks are right
pub tells_joined : (plan : Plan) (test : LinkPlan → Bool) (marks : List ℕ)
    → CloseFirst plan test (length plan.links) marks → MarkJoined plan test marks
    → TellsJoined plan test marks
tells_joined plan test marks all sound a b i j =
    (sound.joins a b i j, λ joined. marked_walk plan test marks all a joined.0 b joined.1)

-- a mark after one mark is replaced by another
abbrev pub replaced : ℕ → ℕ → ℕ → ℕ
replaced gone kept mark = cond (nat_eq mark gone) kept mark

abbrev pub replaced_in : List ℕ → ℕ → ℕ → List ℕ
replaced_in marks gone kept = map (replaced gone kept) marks

mark-replaced : (marks : List ℕ) (gone kept a : ℕ) → length marks ≡ 32 → IsNumber a 32
    → mark_at (replaced_in marks gone kept) a ≡ replaced gone kept (mark_at marks a)
mark-replaced marks gone kept a e i = get_or-map (replaced gone kept) marks (a - 1) 0 0 (omega (arith, e, i.0, i.1))

-- two marks that are equal after the replacement were equal before it, or were the two
split : (gone kept m n : ℕ) → replaced gone kept m ≡ replaced gone kept n
    → (m ≡ n) ⊎ (((m ≡ gone) × (n ≡ kept)) ⊎ ((m ≡ kept) × (n ≡ gone)))
split gone kept m n e = grind (arith, nat_tests)

-- the mark that is kept and the one that is replaced are one afterwards
kept_twice : (gone kept : ℕ) → replaced gone kept kept ≡ replaced gone kept gone
kept_twice gone kept = grind (arith, nat_tests)

-- two equal marks stay equal
same_replaced : (marks : List ℕ) (gone kept a b : ℕ) → length marks ≡ 32 → IsNumber a 32 → IsNumber b 32
    → mark_at marks a ≡ mark_at marks b
    → mark_at (replaced_in marks gone kept) a ≡ mark_at (replaced_in marks gone kept) b
same_replaced marks gone kept a b e i j h =
    mark-replaced marks gone kept a e i ∙ ap (replaced gone kept) h ∙ sym (mark-replaced marks gone kept b e j)

-- two bridges that are joined may get one mark
pub joins_after : (plan : Plan) (test : LinkPlan → Bool) (marks : List ℕ) (x y : ℕ) → length marks ≡ 32
    → IsNumber x 32 → IsNumber y 32
    → AreJoined plan test x y → MarkJoined plan test marks
    → MarkJoined plan test (replaced_in marks (mark_at marks y) (mark_at marks x))
joins_after plan test marks x y e i j xy old = record {
  joins = λ a b k l h. by a b k l (split (mark_at marks y) (mark_at marks x) (mark_at marks a) (mark_at marks b)
      (sym (mark-replaced marks (mark_at marks y) (mark_at marks x) a e k) ∙ h ∙ mark-replaced marks (mark_at marks y)
      (mark_at marks x) b e l));
}
  where
    by : (a b : ℕ) → IsNumber a 32 → IsNumber b 32
        → (mark_at marks a ≡ mark_at marks b)
        ⊎ (((mark_at marks a ≡ mark_at marks y) × (mark_at marks b ≡ mark_at marks x))
        ⊎ ((mark_at marks a ≡ mark_at marks x) × (mark_at marks b ≡ mark_at marks y)))
        → AreJoined plan test a b
    by a b k l (inl h) = old.joins a b k l h
    by a b k l (inr (inl h)) =
        joined_through plan test a y b (old.joins a y k j h.0)
        (joined_through plan test y x b (joined_back plan test x y xy) (old.joins x b i l (sym h.1)))
    by a b k l (inr (inr h)) =
        joined_through plan test a x b (old.joins a x k i h.0)
        (joined_through plan test x y b xy (old.joins y b j l (sym h.1)))

-- the ends of a sound plan's links are at bridges 1 to 32
pub end_number : (plan : Plan) → IsSound plan → (k : ℕ) (link : LinkPlan) → slice_get plan.links k ≡ Some link
    → IsNumber link.a.bridge 32 × IsNumber link.b.bridge 32
end_number plan sound k link e = (
  few link.a (sound-end plan sound (suc k) link link.a e (inl refl)),
  few link.b
      (sound-end plan sound (suc k) link link.b e (inr refl)),
)
  where
    few : (z : End) → IsSoundEnd plan z → IsNumber z.bridge 32
    few z s = (s.bridge.0, let up = s.bridge.1 in let most = sound.limits.bridges in omega (arith, up, most))

-- a customer port of a sound plan is at a bridge 1 to 32
pub customer_number : (plan : Plan) → IsSound plan → (k : ℕ) (c : CustomerPlan) → slice_get plan.customers k ≡ Some c
    → IsNumber c.bridge 32
customer_number plan sound k c at =
    let bridge = (All-at (IsSoundCustomer plan) plan.customers k c at sound.customers).bridge in
    let low = bridge.0 in
    let high = bridge.1 in
    let few = sound.limits.bridges in
    (low, omega (arith, high, few))

-- links with one mark at both ends keep that, and the next one has it after join
pub closes_after : (plan : Plan) (test : LinkPlan → Bool) (i : ℕ) (marks : List ℕ) (link : LinkPlan) → IsSound plan
    → length marks ≡ 32 → slice_get plan.links i ≡ Some link
    → CloseFirst plan test i marks
    → CloseFirst plan test (i + 1)
    (replaced_in marks (mark_at marks link.b.bridge) (mark_at marks link.a.bridge))
closes_after plan test i marks link sound e here old =
    record { close = λ k l h at active. by k l at active (one_less k i h) }
  where
    by : (k : ℕ) (l : LinkPlan) → slice_get plan.links k ≡ Some l → test l ≡ true
        → (k < i) ⊎ (k ≡ i)
        → mark_at (replaced_in marks (mark_at marks link.b.bridge) (mark_at marks link.a.bridge)) l.a.bridge ≡ mark_at
        (replaced_in marks (mark_at marks link.b.bridge) (mark_at marks link.a.bridge)) l.b.bridge
    by k l at active (inl h) =
        let few = end_number plan sound k l at in
        same_replaced marks (mark_at marks link.b.bridge) (mark_at marks link.a.bridge) l.a.bridge l.b.bridge e few.0
        few.1 (old.close k l h at active)
    by k l at active (inr h) =
        let one : l ≡ link = Some-injective (sym at ∙ ap (slice_get plan.links) h ∙ here) in
        let few = end_number plan sound i link here in
        subst (λ (z : LinkPlan). mark_at
        (replaced_in marks (mark_at marks link.b.bridge) (mark_at marks link.a.bridge)) z.a.bridge ≡ mark_at
        (replaced_in marks (mark_at marks link.b.bridge) (mark_at marks link.a.bridge)) z.b.bridge)
        (sym one)
        (mark-replaced marks (mark_at marks link.b.bridge) (mark_at marks link.a.bridge) link.a.bridge e few.0
        ∙ kept_twice (mark_at marks link.b.bridge) (mark_at marks link.a.bridge)
        ∙ sym (mark-replaced marks (mark_at marks link.b.bridge) (mark_at marks link.a.bridge) link.b.bridge e few.1))

-- a link that is not active needs no join
pub closes_past : (plan : Plan) (test : LinkPlan → Bool) (i : ℕ) (marks : List ℕ) (link : LinkPlan)
    → slice_get plan.links i ≡ Some link → test link ≡ false
    → CloseFirst plan test i marks → CloseFirst plan test (i + 1) marks
closes_past plan test i marks link here passive old =
    record { close = λ k l h at active. by k l at active (one_less k i h) }
  where
    by : (k : ℕ) (l : LinkPlan) → slice_get plan.links k ≡ Some l → test l ≡ true
        → (k < i) ⊎ (k ≡ i) → mark_at marks l.a.bridge ≡ mark_at marks l.b.bridge
    by k l at active (inl h) = old.close k l h at active
    by k l at active (inr h) =
        let one : l ≡ link = Some-injective (sym at ∙ ap (slice_get plan.links) h ∙ here) in
        let passive' : test l ≡ false = ap (test) one ∙ passive in
        cc

-- at the start, each bridge has a mark of its own
own_mark : (a : ℕ) → IsNumber a 32 → mark_at (range_with_len 0 32) a ≡ a - 1
own_mark a i = get_or-range_with_len 0 32 (a - 1) 0 (let low = i.0 in let high = i.1 in omega (arith, low, high))
    ∙ zero-add (a - 1)

pub own_marks_join : (plan : Plan) (test : LinkPlan → Bool) → MarkJoined plan test (range_with_len 0 32)
own_marks_join plan test =
    record { joins = λ a b i j h. ([], same a b i j (sym (own_mark a i) ∙ h ∙ own_mark b j)) }
  where
    same : (a b : ℕ) → IsNumber a 32 → IsNumber b 32 → a - 1 ≡ b - 1 → a ≡ b
    same a b i j h = let low = i.0 in let low' = j.0 in omega (arith, low, low', h)

-- all marks at the start are below 32
pub own_marks_below : (a : ℕ) → mark_at (range_with_len 0 32) a < 32
own_marks_below a = by (cases_lt (a - 1) 32)
  where
    by : (a - 1 < 32) ⊎ (32 ≤ a - 1) → mark_at (range_with_len 0 32) a < 32
    by (inl h) = let e = get_or-range_with_len 0 32 (a - 1) 0 h in omega (arith, e, h)
    by (inr h) = let e = get_or_past (range_with_len 0 32) (a - 1) 0 (omega (arith, h, length-range_with_len 0 32))
        in omega (arith, e)

-- the marks stay below 32 after join
pub below_after : (marks : List ℕ) (gone x : ℕ) → ((a : ℕ) → mark_at marks a < 32) → (a : ℕ)
    → mark_at (replaced_in marks gone (mark_at marks x)) a < 32
below_after marks gone x few a = by (cases_lt (a - 1) (length marks))
  where
    choice : (b : Bool) (m n : ℕ) → m < 32 → n < 32 → cond b m n < 32
    choice true m n h g = h
    choice false m n h g = g

    by : (a - 1 < length marks) ⊎ (length marks ≤ a - 1) → mark_at (replaced_in marks gone (mark_at marks x)) a < 32
    by (inl h) =
        let e = get_or-map (replaced gone (mark_at marks x)) marks (a - 1) 0 0 h in
        let less = choice (nat_eq (mark_at marks a) gone) (mark_at marks x) (mark_at marks a) (few x) (few a) in
        omega (arith, e, less)
    by (inr h) =
        let e = get_or_past (replaced_in marks gone (mark_at marks x)) (a - 1) 0
        (omega (arith, h, length-map marks (replaced gone (mark_at marks x)))) in
        omega (arith, e)

-- the link of an iteration is in the plan
pub link_there : (links items : List LinkPlan) (i : ℕ) (link : LinkPlan) → items ≡ links → i < length items
    → link ≡ get_or items i link → slice_get links i ≡ Some link
link_there links items i link e h is =
    ap (λ z. slice_get z i) (sym e) ∙ slice_get-get_or items i link h ∙ ap (λ z. Some z) (sym is)

-- the ends of a link are at bridges 1 to 32
pub crossed_numbers : (plan : Plan) (test : LinkPlan → Bool) (k : ℕ) (near far : End) → IsSound plan
    → CrossesBy plan test k near far
    → IsNumber near.bridge 32 × IsNumber far.bridge 32
crossed_numbers plan test k near far sound c = by c.ends
  where
    few : IsNumber c.link.a.bridge 32 × IsNumber c.link.b.bridge 32
    few =
        let place = numbered-place plan.links k c.link c.numbered_so in
        end_number plan sound place.0 c.link place.2

    by : HasEnds c.link near far → IsNumber near.bridge 32 × IsNumber far.bridge 32
    by (inl h) = (
      subst (λ (e : End). IsNumber e.bridge 32) h.0 few.0,
      subst (λ (e : End). IsNumber e.bridge 32) h.1
          few.1,
    )
    by (inr h) = (
      subst (λ (e : End). IsNumber e.bridge 32) h.0 few.1,
      subst (λ (e : End). IsNumber e.bridge 32) h.1
          few.0,
    )

-- a path from a bridge 1 to 32 ends at such a bridge
pub last_number : (plan : Plan) (test : LinkPlan → Bool) → IsSound plan → (here : ℕ) (ks : List ℕ) (there : ℕ)
    → IsNumber here 32 → Leads plan test here ks there → IsNumber there 32
last_number plan test sound here [] there i w = subst (λ n. IsNumber n 32) w i
last_number plan test sound here (k ∷ ks) there i (near, far, c, n, w) =
    last_number plan test sound far.bridge ks there (crossed_numbers plan test k near far sound c).1 w

-- a path with a link begins and ends at bridges 1 to 32
pub path_numbers : (plan : Plan) (test : LinkPlan → Bool) → IsSound plan → (here k : ℕ) (ks : List ℕ) (there : ℕ)
    → Leads plan test here (k ∷ ks) there → IsNumber here 32 × IsNumber there 32
path_numbers plan test sound here k ks there (near, far, c, n, w) =
    let few = crossed_numbers plan test k near far sound c in
    (subst (λ m. IsNumber m 32) n few.0, last_number plan test sound far.bridge ks there few.1 w)
