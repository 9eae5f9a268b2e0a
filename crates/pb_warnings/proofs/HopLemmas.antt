-- The numbers of links to the root, brought down link by link.
use Rattle.std.proofs.Common.{◌≡◌, ◌≢◌, ◌⊎◌, inl, inr, ℕ, suc, ◌+◌, ◌-◌, ◌<◌, ◌≤◌, Some, min}
use Rattle.std.proofs.Common.{List, [], ◌∷◌, length, get_or, slice_get, slice_set, refl, sym, ◌∙◌, ap, subst, arith}
use Rattle.std.proofs.Common.{replicate}
use Rattle.std.proofs.lemmas.List.{length-set, get_or-replicate, get_or-set_other, get_or-set_same}
use Rattle.std.proofs.lemmas.Bool.{cases_lt}
use Rattle.std.proofs.lemmas.Option.{slice_get_within}
use Rattle.pb_frame.proofs.Lists.{Some-injective}
use Rattle.pb_frame.proofs.Things.{one_less}
use Rattle.pb_lan.proofs.Numbers.{numbered-place}
use Rattle.pb_lan.specs.Forests.{CrossesBy, HasEnds}
use Rattle.pb_lan.specs.Plans.{IsNumber, IsSound}
use Rattle.pb_lan.specs.declared.plan.Plan.{Plan}
use Rattle.pb_lan.specs.declared.plan.End.{End}
use Rattle.pb_lan.specs.declared.plan.LinkPlan.{LinkPlan}
use Rattle.pb_joins.proofs.JoinLemmas.{crosses_back, end_number}
use Rattle.pb_warnings.specs.Hops.{relaxed, IsWithin, AreHops, IsNear, Nears, TellsWithin}
use Rattle.pb_warnings.specs.Links.{passes}
use Rattle.pb_joins.specs.Joins.{Leads, mark_at}
use Rattle.pb_warnings.specs.declared.links.Links.TheVariants.{All}

same_or_not : (a b : ℕ) → (a ≡ b) ⊎ (a ≢ b)
same_or_not a b = by (cases_lt a b) (cases_lt b a)
  where
    by : (a < b) ⊎ (b ≤ a) → (b < a) ⊎ (a ≤ b) → (a ≡ b) ⊎ (a ≢ b)
    by (inl h) g = inr (omega (arith, h))
    by (inr h) (inl g) = inr (omega (arith, g))
    by (inr h) (inr g) = inl (omega (arith, h, g))

-- the entry that is brought down
relaxed_same : (h : List ℕ) (i j : ℕ) → j < length h
    → get_or (relaxed h i j) j 0 ≡ min (get_or h j 0) (min (get_or h i 0 + 1) 255)
relaxed_same h i j l = get_or-set_same h j _ 0 l

-- the other entries
relaxed_other : (h : List ℕ) (i j k : ℕ) → k ≢ j → get_or (relaxed h i j) k 0 ≡ get_or h k 0
relaxed_other h i j k n = get_or-set_other h j k _ 0 n

-- no entry rises
pub relaxed_lower : (h : List ℕ) (i j k : ℕ) → j < length h → get_or (relaxed h i j) k 0 ≤ get_or h k 0
relaxed_lower h i j k l = by (same_or_not k j)
  where
    by : (k ≡ j) ⊎ (k ≢ j) → get_or (relaxed h i j) k 0 ≤ get_or h k 0
    by (inl e) = subst (λ z. get_or (relaxed h i j) z 0 ≤ get_or h z 0) (sym e)
        (let v = relaxed_same h i j l in omega (arith, v))
    by (inr n) = let v = relaxed_other h i j k n in omega (arith, v)

-- the entry is at most one more than the other one
pub relaxed_near : (h : List ℕ) (i j : ℕ) → j < length h → get_or (relaxed h i j) j 0 ≤ get_or h i 0 + 1
relaxed_near h i j l = let v = relaxed_same h i j l in omega (arith, v)

within_more : (plan : Plan) (root m n b : ℕ) → m ≤ n → IsWithin plan root m b → IsWithin plan root n b
within_more plan root m n b h (ks, w, l) = (ks, w, omega (arith, h, l))

-- one more link leads to the root
within_step : (plan : Plan) (root m k : ℕ) (near far : End) → CrossesBy plan (passes All) k near far
    → IsWithin plan root m far.bridge → IsWithin plan root (m + 1) near.bridge
within_step plan root m k near far c (ks, w, l) = (k ∷ ks, (near, far, c, refl, w), omega (arith, l))

-- numbers stay right when a bridge is brought down by a link
pub right_after : (plan : Plan) (root : ℕ) (h : List ℕ) (k : ℕ) (near far : End) → length h ≡ 32
    → IsNumber near.bridge 32 → IsNumber far.bridge 32 → CrossesBy plan (passes All) k near far
    → AreHops plan root h → AreHops plan root (relaxed h (far.bridge - 1) (near.bridge - 1))
right_after plan root h k near far long in_near in_far c old =
    record { within = λ b i below. by b i below (same_or_not (b - 1) (near.bridge - 1)) }
  where
    new : List ℕ
    new = relaxed h (far.bridge - 1) (near.bridge - 1)

    value : mark_at new near.bridge ≡ min (mark_at h near.bridge) (min (mark_at h far.bridge + 1) 255)
    value = relaxed_same h (far.bridge - 1) (near.bridge - 1)
        (let low = in_near.0 in let high = in_near.1 in omega (arith, low, high, long))

    here : mark_at new near.bridge < 255
        → (mark_at h near.bridge < mark_at h far.bridge + 1) ⊎ (mark_at h far.bridge + 1 ≤ mark_at h near.bridge)
        → IsWithin plan root (mark_at new near.bridge) near.bridge
    here below (inl g) = within_more plan root (mark_at h near.bridge) (mark_at new near.bridge) near.bridge
        (omega (arith, value, below, g)) (old.within near.bridge in_near (omega (arith, value, below, g)))
    here below (inr g) = within_more plan root (mark_at h far.bridge + 1) (mark_at new near.bridge) near.bridge
        (omega (arith, value, below, g))
        (within_step plan root (mark_at h far.bridge) k near far c
        (old.within far.bridge in_far (omega (arith, value, below, g))))

    by : (b : ℕ) → IsNumber b 32 → mark_at new b < 255 → (b - 1 ≡ near.bridge - 1) ⊎ (b - 1 ≢ near.bridge - 1)
        → IsWithin plan root (mark_at new b) b
    by b i below (inl e) =
        let one : near.bridge ≡ b = (let low = i.0 in let low' = in_near.0 in omega (arith, low, low', e)) in
        subst (λ z. IsWithin plan root (mark_at new z) z) one
        (here (subst (λ z. mark_at new z < 255) (sym one) below)
        (cases_lt (mark_at h near.bridge) (mark_at h far.bridge + 1)))
    by b i below (inr n) =
        let v : mark_at new b ≡ mark_at h b = relaxed_other h (far.bridge - 1) (near.bridge - 1) (b - 1) n in
        within_more plan root (mark_at h b) (mark_at new b) b (omega (arith, v))
        (old.within b i (omega (arith, v, below)))

-- both ends of one more link are brought down
pub nears_after : (plan : Plan) (i : ℕ) (link : LinkPlan) (old h : List ℕ) → IsSound plan → length h ≡ 32
    → slice_get plan.links i ≡ Some link
    → Nears plan i old h
    → Nears plan (i + 1) old
    (relaxed (relaxed h (link.a.bridge - 1) (link.b.bridge - 1)) (link.b.bridge - 1) (link.a.bridge - 1))
nears_after plan i link old h sound long at nears = record {
  lower = λ b. let x = second (b - 1) in let y = first (b - 1) in let z = nears.lower b in omega (arith, x, y, z);
  near = λ k l g there. by k l g there (one_less k i g);
  right = λ root right.
      right_after plan root one (suc i) link.a link.b long_one few.0 few.1
      (crosses_back plan (passes All) (suc i) link.b link.a back)
      (right_after plan root h (suc i) link.b link.a long few.1 few.0 back (nears.right root right));
}
  where
    few : IsNumber link.a.bridge 32 × IsNumber link.b.bridge 32
    few = end_number plan sound i link at

    a : ℕ
    a = link.a.bridge - 1

    b : ℕ
    b = link.b.bridge - 1

    one : List ℕ
    one = relaxed h a b

    two : List ℕ
    two = relaxed one b a

    long_one : length one ≡ 32
    long_one = length-set h b _ ∙ long

    low_b : b < length h
    low_b = let low = few.1.0 in let high = few.1.1 in omega (arith, low, high, long)

    low_a : a < length one
    low_a = let low = few.0.0 in let high = few.0.1 in omega (arith, low, high, long_one)

    first : (k : ℕ) → get_or one k 0 ≤ get_or h k 0
    first k = relaxed_lower h a b k low_b

    second : (k : ℕ) → get_or two k 0 ≤ get_or one k 0
    second k = relaxed_lower one b a k low_a

    back : CrossesBy plan (passes All) (suc i) link.b link.a
    back = record { link = link; numbered_so = at; active = refl; ends = inr (refl, refl) }

    near_here : IsNear link old two
    near_here = record {
      a =
          let x = relaxed_near one b a low_a in
          let y = first b in
          let z = nears.lower link.b.bridge in
          omega (arith, x, y, z);
      b =
          let x = second b in
          let y = relaxed_near h a b low_b in
          let z = nears.lower link.a.bridge in
          omega (arith, x, y, z);
    }

    near_before : (l : LinkPlan) → IsNear l old h → IsNear l old two
    near_before l n = record {
      a = let x = second (l.a.bridge - 1) in let y = first (l.a.bridge - 1) in let z = n.a in omega (arith, x, y, z);
      b = let x = second (l.b.bridge - 1) in let y = first (l.b.bridge - 1) in let z = n.b in omega (arith, x, y, z);
    }

    by : (k : ℕ) (l : LinkPlan) → k < i + 1 → slice_get plan.links k ≡ Some l → (k < i) ⊎ (k ≡ i) → IsNear l old two
    by k l g there (inl less) = near_before l (nears.near k l less there)
    by k l g there (inr e) =
        let one : link ≡ l = Some-injective (sym at ∙ ap (slice_get plan.links) (sym e) ∙ there) in
        subst (λ (z : LinkPlan). IsNear z old two) one near_here

-- each path to the root of at most so many links is at least as long as the bridge's number
pub record AreLeast (plan : Plan) (root most : ℕ) (hops : List ℕ) : Type 0 where
  pub least : (bridge : ℕ) (ks : List ℕ) → Leads plan (passes All) bridge ks root → length ks ≤ most
      → mark_at hops bridge ≤ length ks

-- that is so for one more link after a round over all links
pub least_after : (plan : Plan) (root most : ℕ) (old new : List ℕ) → Nears plan (length plan.links) old new
    → AreLeast plan root most old → AreLeast plan root (most + 1) new
least_after plan root most old new nears before = record { least = least }
  where
    across : (k : ℕ) (near far : End) → CrossesBy plan (passes All) k near far
        → mark_at new near.bridge ≤ mark_at old far.bridge + 1
    across k near far c = by c.ends
      where
        place : (j : ℕ) × (k ≡ suc j) × (slice_get plan.links j ≡ Some c.link)
        place = numbered-place plan.links k c.link c.numbered_so

        both : IsNear c.link old new
        both = nears.near place.0 c.link (slice_get_within plan.links place.0 c.link place.2) place.2

        by : HasEnds c.link near far → mark_at new near.bridge ≤ mark_at old far.bridge + 1
        by (inl h) =
            subst (λ (x : End). mark_at new x.bridge ≤ mark_at old far.bridge + 1) h.0
            (subst (λ (y : End). mark_at new c.link.a.bridge ≤ mark_at old y.bridge + 1) h.1 both.a)
        by (inr h) =
            subst (λ (x : End). mark_at new x.bridge ≤ mark_at old far.bridge + 1) h.0
            (subst (λ (y : End). mark_at new c.link.b.bridge ≤ mark_at old y.bridge + 1) h.1 both.b)

    least : (bridge : ℕ) (ks : List ℕ) → Leads plan (passes All) bridge ks root → length ks ≤ most + 1
        → mark_at new bridge ≤ length ks
    least bridge [] w h =
        let x = nears.lower bridge in
        let y = before.least bridge [] w (omega arith) in
        omega (arith, x, y)
    least bridge (k ∷ ks) (near, far, c, n, w) h =
        let x = before.least far.bridge ks w (omega (arith, h)) in
        let y = across k near far c in
        let z = ap (mark_at new) n in
        omega (arith, x, y, z)

-- numbers that are right and least tell which bridges are within so many links of the root
pub tells_within : (plan : Plan) (root : ℕ) (hops : List ℕ) → AreHops plan root hops → AreLeast plan root 20 hops
    → TellsWithin plan root 20 hops
tells_within plan root hops right least b i = (
  λ h. within_more plan root (mark_at hops b) 20 b h (right.within b i (omega (arith, h))),
  λ (ks, w, l). let x = least.least b ks w l in omega (arith, x, l),
)

-- no bridge has a path
abbrev pub never : List ℕ
never = replicate 32 255

never_long : length never ≡ 32
never_long = refl

-- the root has number 0 at the start, and all other bridges 255
abbrev pub start : ℕ → List ℕ
start root = slice_set never (root - 1) 0

pub right_start : (plan : Plan) (root : ℕ) → IsNumber root 32 → AreHops plan root (start root)
right_start plan root in_root = record { within = λ b i below. by b i below (same_or_not (b - 1) (root - 1)) }
  where
    by : (b : ℕ) → IsNumber b 32 → mark_at (start root) b < 255 → (b - 1 ≡ root - 1) ⊎ (b - 1 ≢ root - 1)
        → IsWithin plan root (mark_at (start root) b) b
    by b i below (inl e) =
        let one : b ≡ root = (let low = i.0 in let low' = in_root.0 in omega (arith, low, low', e)) in
        ([], one, omega arith)
    by b i below (inr n) =
        let v : mark_at (start root) b ≡ get_or never (b - 1) 0 = get_or-set_other never (root - 1) (b - 1) 0 0 n in
        let w = get_or-replicate {A = ℕ} 32 (b - 1) 255 0
        (let low = i.0 in let high = i.1 in omega (arith, low, high)) in
        absurd (omega (arith, v, w, below))

pub least_start : (plan : Plan) (root : ℕ) → IsNumber root 32 → AreLeast plan root 0 (start root)
least_start plan root in_root = record { least = least }
  where
    least : (bridge : ℕ) (ks : List ℕ) → Leads plan (passes All) bridge ks root → length ks ≤ 0
        → mark_at (start root) bridge ≤ length ks
    least bridge [] w h =
        let v : mark_at (start root) root ≡ 0 = get_or-set_same never (root - 1) 0 0
        (let low = in_root.0 in let high = in_root.1 in omega (arith, low, high, never_long)) in
        let e = ap (mark_at (start root)) w in
        omega (arith, v, e)
    least bridge (k ∷ ks) w h = absurd (omega (arith, h))
