-- Climbing from both ends of a path, for `path`.
use Rattle.std.proofs.Common.{◌≡◌, ◌≢◌, ◌⊎◌, inl, inr, ℕ, zero, suc, ◌+◌, ◌<◌, ◌≤◌, Some, None, Option, true, false}
use Rattle.std.proofs.Common.{List, [], ◌∷◌, ◌++◌, reverse, refl, sym, ◌∙◌, ap, subst, unwrap_or, arith, add-one}
use Rattle.std.proofs.Common.{append_assoc, nat_eq}
use Rattle.std.proofs.lemmas.List.{reverse-append}
use Rattle.std.specs.List.{AllByRecursion, IsDistinct}
use Rattle.pb_forest.specs.Paths.{depth_of, across, HasUp}
use Rattle.pb_forest.specs.Sides.{ClimbsDeeper}
use Rattle.pb_forest.specs.declared.ways.Side.{Side}
use Rattle.pb_frame.proofs.Lists.{All-imply, All-append}
use Rattle.pb_lan.proofs.ForestEdges.{other-far, crosses_back, IsWayUp, way-up}
use Rattle.pb_lan.proofs.Numbers.{lacks}
use Rattle.pb_lan.specs.Forests.{Shows, LeadsUp, Crosses, IsWalk, IsPath, AreJoined}
use Rattle.pb_lan.specs.Numbering.{numbered}
use Rattle.pb_lan.specs.declared.plan.Plan.{Plan}
use Rattle.pb_lan.specs.declared.plan.End.{End}
use Rattle.pb_lan.specs.declared.shape.Shape.{Shape}
use Rattle.pb_lan.specs.declared.shape.Rooted.{Rooted}

-- the link leads up from a bridge to its parent
pub record IsUp (plan : Plan) (rooted : Rooted) (x k p : ℕ) : Type 0 where
  pub up : HasUp rooted x k
  pub above : across x (numbered plan.links k) ≡ p
  pub deeper : depth_of rooted x ≡ depth_of rooted p + 1

-- a link that leads up in a certificate leads to the parent
lead-up : (plan : Plan) (shape : Shape) (vid : ℕ) (rooted : Rooted) (x k : ℕ) → HasUp rooted x k
    → (way : LeadsUp plan shape vid rooted x k) → IsUp plan rooted x k way.far.bridge
lead-up plan shape vid rooted x k h way = record {
  up = h;
  above = ap (across x) way.crosses.numbered_so ∙ other-far way.crosses.link way.near way.far x way.crosses.ends
      way.from;
  deeper = let a = ap (λ o. unwrap_or o 0) way.depth_above in let b = ap (λ o. unwrap_or o 0) way.depth_here in omega
      (arith, a, b);
}

-- each active link leads up from one of its ends
pub cross-up : (plan : Plan) (shape : Shape) (vid : ℕ) (rooted : Rooted) → Shows plan shape vid rooted
    → (k : ℕ) (near far : End) → Crosses plan shape vid k near far
    → IsUp plan rooted near.bridge k far.bridge ⊎ IsUp plan rooted far.bridge k near.bridge
cross-up plan shape vid rooted s k near far c = by way.ends
  where
    way : IsWayUp plan shape vid rooted k near far
    way = way-up plan shape vid rooted s k near far c

    is_up : IsUp plan rooted way.child k way.leads.far.bridge
    is_up = lead-up plan shape vid rooted way.child k way.up way.leads

    turn : (e f : End) → e ≡ way.leads.near → f ≡ way.leads.far → IsUp plan rooted e.bridge k f.bridge
    turn e f h g =
        let i : way.child ≡ e.bridge = sym way.leads.from ∙ ap (λ x. x.bridge) (sym h) in
        let j : way.leads.far.bridge ≡ f.bridge = ap (λ x. x.bridge) (sym g) in
        subst (λ x. IsUp plan rooted x k f.bridge) i (subst (λ y. IsUp plan rooted way.child k y) j is_up)

    by : ((near ≡ way.leads.near) × (far ≡ way.leads.far)) ⊎ ((near ≡ way.leads.far) × (far ≡ way.leads.near))
        → IsUp plan rooted near.bridge k far.bridge ⊎ IsUp plan rooted far.bridge k near.bridge
    by (inl h) = inl (turn near far h.0 h.1)
    by (inr h) = inr (turn far near h.1 h.0)

-- the parent of a bridge, or the bridge itself if it has none
abbrev parent_by : Plan → ℕ → Option (Option ℕ) → ℕ
parent_by plan x None = x
parent_by plan x (Some None) = x
parent_by plan x (Some (Some k)) = across x (numbered plan.links k)

-- the bridge n links above
abbrev top : Plan → Rooted → ℕ → ℕ → ℕ
top plan rooted zero x = x
top plan rooted (suc n) x = top plan rooted n (parent_by plan x (numbered rooted.up x))

abbrev root_of : Plan → Rooted → ℕ → ℕ
root_of plan rooted x = top plan rooted (depth_of rooted x) x

-- a bridge and its parent have the same root
up-root : (plan : Plan) (rooted : Rooted) (x k p : ℕ) → IsUp plan rooted x k p
    → root_of plan rooted x ≡ root_of plan rooted p
up-root plan rooted x k p u =
    let d : depth_of rooted x ≡ suc (depth_of rooted p) = u.deeper ∙ add-one (depth_of rooted p) in
    let e : parent_by plan x (numbered rooted.up x) ≡ p = ap (parent_by plan x) u.up ∙ u.above in
    ap (λ n. top plan rooted n x) d ∙ ap (top plan rooted (depth_of rooted p)) e

-- joined bridges have the same root
walk-root : (plan : Plan) (shape : Shape) (vid : ℕ) (rooted : Rooted) → Shows plan shape vid rooted
    → (here : ℕ) (ks : List ℕ) (there : ℕ)
    → IsWalk plan shape vid here ks there → root_of plan rooted here ≡ root_of plan rooted there
walk-root plan shape vid rooted s here [] there w = ap (root_of plan rooted) w
walk-root plan shape vid rooted s here (k ∷ ks) there (near, far, c, n, w) =
    ap (root_of plan rooted) (sym n) ∙ step (cross-up plan shape vid rooted s k near far c)
    ∙ walk-root plan shape vid rooted s far.bridge ks there w
  where
    step : IsUp plan rooted near.bridge k far.bridge ⊎ IsUp plan rooted far.bridge k near.bridge
        → root_of plan rooted near.bridge ≡ root_of plan rooted far.bridge
    step (inl u) = up-root plan rooted near.bridge k far.bridge u
    step (inr u) = sym (up-root plan rooted far.bridge k near.bridge u)

-- a bridge without a link that leads up has depth 0
no-up : (plan : Plan) (shape : Shape) (vid : ℕ) (rooted : Rooted) → Shows plan shape vid rooted → (x : ℕ)
    → ((k : ℕ) → HasUp rooted x k → ⊥) → depth_of rooted x ≡ 0
no-up plan shape vid rooted s x none = by (numbered rooted.up x) refl
  where
    by : (o : Option (Option ℕ)) → numbered rooted.up x ≡ o → depth_of rooted x ≡ 0
    by None h = ap (λ o. unwrap_or o 0) (lacks rooted.up rooted.depth x (s.parents ∙ sym s.depths) h)
    by (Some None) h = ap (λ o. unwrap_or o 0) (s.roots x h)
    by (Some (Some k)) h = absurd (none k h)

-- a link of the first side: it leads up from a bridge deeper than the first side's and as deep as the second's, and
-- not from that one
abbrev IsPassed : Rooted → ℕ → ℕ → ℕ → Type 0
IsPassed rooted x y k = (u : ℕ) → HasUp rooted u k → (depth_of rooted x < depth_of rooted u)
    × (depth_of rooted y ≤ depth_of rooted u) × (u ≢ y)

-- a link of the second side: it leads up from a bridge deeper than both sides' bridges
abbrev IsBelow : Rooted → ℕ → ℕ → ℕ → Type 0
IsBelow rooted x y k = (v : ℕ) → HasUp rooted v k → (depth_of rooted x < depth_of rooted v)
    × (depth_of rooted y < depth_of rooted v)

-- both sides have climbed, over different links
pub record Goes (plan : Plan) (shape : Shape) (vid : ℕ) (rooted : Rooted) (a b x : ℕ) (xs : List ℕ) (y : ℕ)
    (ys : List ℕ) : Type 0 where
  pub walk_a : IsWalk plan shape vid a xs x
  pub walk_b : IsWalk plan shape vid y (reverse ys) b
  pub distinct : IsDistinct nat_eq (xs ++ reverse ys)
  pub passed : AllByRecursion (IsPassed rooted x y) xs
  pub below : AllByRecursion (IsBelow rooted x y) (reverse ys)

pub goes-start : (plan : Plan) (shape : Shape) (vid : ℕ) (rooted : Rooted) (a b : ℕ)
    → Goes plan shape vid rooted a b a [] b []
unfolding IsDistinct
goes-start plan shape vid rooted a b = record { walk_a = refl; walk_b = refl; distinct = tt; passed = tt; below = tt }

-- inserting a new link into distinct ones
distinct-insert : (k : ℕ) (xs ys : List ℕ) → AllByRecursion (λ z. k ≢ z) xs → AllByRecursion (λ z. k ≢ z) ys
    → IsDistinct nat_eq (xs ++ ys) → IsDistinct nat_eq (xs ++ k ∷ ys)
unfolding IsDistinct
distinct-insert k [] ys a b d = (All-imply (λ z. k ≢ z) (λ z. nat_eq k z ≡ false) (λ z h. grind (arith, h)) ys b, d)
distinct-insert k (x ∷ xs) ys a b d = (insert xs d.0, distinct-insert k xs ys a.1 b d.1)
  where
    insert : (zs : List ℕ) → AllByRecursion (λ z. nat_eq x z ≡ false) (zs ++ ys)
        → AllByRecursion (λ z. nat_eq x z ≡ false) (zs ++ k ∷ ys)
    insert [] h = (let ne = a.0 in grind (arith, ne), h)
    insert (z ∷ zs) h = (h.0, insert zs h.1)

-- two walks joined are a walk
pub walk-append : (plan : Plan) (shape : Shape) (vid here : ℕ) (ks : List ℕ) (there : ℕ) (ls : List ℕ) (last : ℕ)
    → IsWalk plan shape vid here ks there → IsWalk plan shape vid there ls last
    → IsWalk plan shape vid here (ks ++ ls) last
walk-append plan shape vid here [] there ls last w v = subst (λ z. IsWalk plan shape vid z ls last) (sym w) v
walk-append plan shape vid here (k ∷ ks) there ls last (near, far, c, n, w) v =
    (near, far, c, n, walk-append plan shape vid far.bridge ks there ls last w v)

-- a link leads up from one bridge alone
only-child : (plan : Plan) (shape : Shape) (vid : ℕ) (rooted : Rooted) → Shows plan shape vid rooted → (x k : ℕ)
    → HasUp rooted x k → (u : ℕ) → HasUp rooted u k → u ≡ x
only-child plan shape vid rooted s x k h u g =
    let way = s.ways_up x k h in
    let child = s.children k way.crosses.link way.crosses.numbered_so way.crosses.active in
    child.only u g ∙ sym (child.only x h)

-- one link up from a bridge
record IsClimb (plan : Plan) (shape : Shape) (vid : ℕ) (rooted : Rooted) (x k p : ℕ) : Type 0 where
  way : LeadsUp plan shape vid rooted x k
  to : way.far.bridge ≡ p
  deeper : depth_of rooted x ≡ depth_of rooted p + 1

climb-one : (plan : Plan) (shape : Shape) (vid : ℕ) (rooted : Rooted) → Shows plan shape vid rooted
    → (x k p : ℕ) → HasUp rooted x k → p ≡ across x (numbered plan.links k) → IsClimb plan shape vid rooted x k p
climb-one plan shape vid rooted s x k p h e =
    let way = s.ways_up x k h in
    let is_up = lead-up plan shape vid rooted x k h way in
    let to : way.far.bridge ≡ p = sym is_up.above ∙ sym e in
    record { way = way; to = to; deeper = subst (λ z. depth_of rooted x ≡ depth_of rooted z + 1) to is_up.deeper }

-- a climb of the first side
climb-a : (plan : Plan) (shape : Shape) (vid : ℕ) (rooted : Rooted) → Shows plan shape vid rooted
    → (a b x : ℕ) (xs : List ℕ) (y : ℕ) (ys : List ℕ) → Goes plan shape vid rooted a b x xs y ys
    → x ≢ y → depth_of rooted y ≤ depth_of rooted x → (k p : ℕ) → HasUp rooted x k
    → p ≡ across x (numbered plan.links k)
    → Goes plan shape vid rooted a b p (xs ++ k ∷ []) y ys × (depth_of rooted x ≡ depth_of rooted p + 1)
climb-a plan shape vid rooted s a b x xs y ys g ne le k p h e = (made, up.deeper)
  where
    up : IsClimb plan shape vid rooted x k p
    up = climb-one plan shape vid rooted s x k p h e

    new : IsPassed rooted p y k
    new u q =
        let one : u ≡ x = only-child plan shape vid rooted s x k h u q in
        let d : depth_of rooted u ≡ depth_of rooted x = ap (depth_of rooted) one in
        (omega (arith, up.deeper, d), omega (arith, le, d), λ f. ne (sym one ∙ f))

    step : IsWalk plan shape vid x (k ∷ []) p
    step = (up.way.near, up.way.far, up.way.crosses, up.way.from, up.to)

    apart_a : AllByRecursion (λ z. k ≢ z) xs
    apart_a = All-imply (IsPassed rooted x y) (λ z. k ≢ z)
        (λ z q f. let l = (q x (subst (λ n. HasUp rooted x n) f h)).0 in omega (arith, l)) xs g.passed

    apart_b : AllByRecursion (λ z. k ≢ z) (reverse ys)
    apart_b = All-imply (IsBelow rooted x y) (λ z. k ≢ z)
        (λ z q f. let l = (q x (subst (λ n. HasUp rooted x n) f h)).0 in omega (arith, l)) (reverse ys) g.below

    made : Goes plan shape vid rooted a b p (xs ++ k ∷ []) y ys
    made = record {
      walk_a = walk-append plan shape vid a xs x (k ∷ []) p g.walk_a step;
      walk_b = g.walk_b;
      distinct = subst (IsDistinct nat_eq) (sym (append_assoc xs (k ∷ []) (reverse ys)))
          (distinct-insert k xs (reverse ys) apart_a apart_b g.distinct);
      passed = All-append (IsPassed rooted p y) xs (k ∷ [])
          (All-imply (IsPassed rooted x y) (IsPassed rooted p y)
          (λ z q u i. let r = q u i in let l = r.0 in (omega (arith, l, up.deeper), r.1, r.2)) xs g.passed)
          (new, tt);
      below = All-imply (IsBelow rooted x y) (IsBelow rooted p y)
          (λ z q v i. let r = q v i in let l = r.0 in (omega (arith, l, up.deeper), r.1)) (reverse ys) g.below;
    }

-- a climb of the second side
climb-b : (plan : Plan) (shape : Shape) (vid : ℕ) (rooted : Rooted) → Shows plan shape vid rooted
    → (a b x : ℕ) (xs : List ℕ) (y : ℕ) (ys : List ℕ) → Goes plan shape vid rooted a b x xs y ys
    → depth_of rooted x < depth_of rooted y → (k p : ℕ) → HasUp rooted y k → p ≡ across y (numbered plan.links k)
    → Goes plan shape vid rooted a b x xs p (ys ++ k ∷ []) × (depth_of rooted y ≡ depth_of rooted p + 1)
climb-b plan shape vid rooted s a b x xs y ys g lt k p h e = (made, up.deeper)
  where
    up : IsClimb plan shape vid rooted y k p
    up = climb-one plan shape vid rooted s y k p h e

    new : IsBelow rooted x p k
    new v q =
        let one : v ≡ y = only-child plan shape vid rooted s y k h v q in
        let d : depth_of rooted v ≡ depth_of rooted y = ap (depth_of rooted) one in
        (omega (arith, lt, d), omega (arith, up.deeper, d))

    back : Crosses plan shape vid k up.way.far up.way.near
    back = crosses_back plan shape vid k up.way.near up.way.far up.way.crosses

    apart_a : AllByRecursion (λ z. k ≢ z) xs
    apart_a = All-imply (IsPassed rooted x y) (λ z. k ≢ z) (λ z q f. (q y (subst (λ n. HasUp rooted y n) f h)).2 refl)
        xs g.passed

    apart_b : AllByRecursion (λ z. k ≢ z) (reverse ys)
    apart_b = All-imply (IsBelow rooted x y) (λ z. k ≢ z)
        (λ z q f. let l = (q y (subst (λ n. HasUp rooted y n) f h)).1 in omega (arith, l)) (reverse ys) g.below

    turn : k ∷ reverse ys ≡ reverse (ys ++ k ∷ [])
    turn = sym (reverse-append ys (k ∷ []))

    lower : (u : ℕ) → depth_of rooted y ≤ depth_of rooted u → u ≢ p
    lower u l f = let d : depth_of rooted u ≡ depth_of rooted p = ap (depth_of rooted) f in omega
        (arith, l, up.deeper, d)

    made : Goes plan shape vid rooted a b x xs p (ys ++ k ∷ [])
    made = record {
      walk_a = g.walk_a;
      walk_b = subst (λ ks. IsWalk plan shape vid p ks b) turn (
        up.way.far,
        up.way.near,
        back,
        up.to,
        subst (λ q. IsWalk plan shape vid q (reverse ys) b) (sym up.way.from)
            g.walk_b,
      );
      distinct = subst (λ ks. IsDistinct nat_eq (xs ++ ks)) turn
          (distinct-insert k xs (reverse ys) apart_a apart_b g.distinct);
      passed = All-imply (IsPassed rooted x y) (IsPassed rooted x p)
          (λ z q u i. let r = q u i in let l = r.1 in (r.0, omega (arith, l, up.deeper), lower u l)) xs g.passed;
      below = subst (AllByRecursion (IsBelow rooted x p)) turn (
        new,
        All-imply (IsBelow rooted x y) (IsBelow rooted x p)
            (λ z q v i. let r = q v i in let l = r.1 in (r.0, omega (arith, l, up.deeper))) (reverse ys) g.below,
      );
    }

-- the first number is at least the second, or less
order : (m n : ℕ) → (n ≤ m) ⊎ (m < n)
order m n = grind arith

-- a climb at the deeper side keeps `Goes`, for the loop of `path`
pub goes-on : (plan : Plan) (shape : Shape) (vid : ℕ) (rooted : Rooted) → Shows plan shape vid rooted
    → (a b : ℕ) (i j m n : Side)
    → Goes plan shape vid rooted a b i.bridge i.links.items j.bridge j.links.items → i.bridge ≢ j.bridge
    → ClimbsDeeper plan rooted i j m n true
    → Goes plan shape vid rooted a b m.bridge m.links.items n.bridge n.links.items
    × (depth_of rooted m.bridge + depth_of rooted n.bridge < depth_of rooted i.bridge + depth_of rooted j.bridge)
goes-on plan shape vid rooted s a b i j m n g ne c = by (order (depth_of rooted i.bridge) (depth_of rooted j.bridge))
  where
    by : (depth_of rooted j.bridge ≤ depth_of rooted i.bridge) ⊎ (depth_of rooted i.bridge < depth_of rooted j.bridge)
        → Goes plan shape vid rooted a b m.bridge m.links.items n.bridge n.links.items
        × (depth_of rooted m.bridge + depth_of rooted n.bridge < depth_of rooted i.bridge + depth_of rooted j.bridge)
    by (inl le) =
        let r = c.first le in
        let made = climb-a plan shape vid rooted s a b i.bridge i.links.items j.bridge j.links.items g ne le r.0.0
        m.bridge r.0.1 r.0.2 in
        let d = made.1 in
        let stays : depth_of rooted n.bridge ≡ depth_of rooted j.bridge = ap (λ z. depth_of rooted z.bridge) r.1 in (
          subst (λ z. Goes plan shape vid rooted a b m.bridge m.links.items z.bridge z.links.items) (sym r.1)
              (subst (λ ks. Goes plan shape vid rooted a b m.bridge ks j.bridge j.links.items) (sym r.0.3) made.0),
          omega (arith, d, stays),
        )
    by (inr lt) =
        let r = c.second lt in
        let made = climb-b plan shape vid rooted s a b i.bridge i.links.items j.bridge j.links.items g lt r.0.0
        n.bridge r.0.1 r.0.2 in
        let d = made.1 in
        let stays : depth_of rooted m.bridge ≡ depth_of rooted i.bridge = ap (λ z. depth_of rooted z.bridge) r.1 in (
          subst (λ z. Goes plan shape vid rooted a b z.bridge z.links.items n.bridge n.links.items) (sym r.1)
              (subst (λ ks. Goes plan shape vid rooted a b i.bridge i.links.items n.bridge ks) (sym r.0.3) made.0),
          omega (arith, d, stays),
        )

-- if the deeper side cannot climb, the bridges are not joined
pub goes-nowhere : (plan : Plan) (shape : Shape) (vid : ℕ) (rooted : Rooted) → Shows plan shape vid rooted
    → (a b : ℕ) (i j m n : Side)
    → Goes plan shape vid rooted a b i.bridge i.links.items j.bridge j.links.items → i.bridge ≢ j.bridge
    → ClimbsDeeper plan rooted i j m n false
    → AreJoined plan shape vid a b → ⊥
goes-nowhere plan shape vid rooted s a b i j m n g ne c joined =
    by (order (depth_of rooted i.bridge) (depth_of rooted j.bridge))
  where
    by : (depth_of rooted j.bridge ≤ depth_of rooted i.bridge) ⊎ (depth_of rooted i.bridge < depth_of rooted j.bridge)
        → ⊥
    by (inr lt) = let z = no-up plan shape vid rooted s j.bridge (c.second lt).0 in omega (arith, lt, z)
    by (inl le) =
        let z = no-up plan shape vid rooted s i.bridge (c.first le).0 in
        let y : depth_of rooted j.bridge ≡ 0 = omega (arith, le, z) in
        let root_i : root_of plan rooted i.bridge ≡ i.bridge = ap (λ d. top plan rooted d i.bridge) z in
        let root_j : root_of plan rooted j.bridge ≡ j.bridge = ap (λ d. top plan rooted d j.bridge) y in
        let from_a = walk-root plan shape vid rooted s a i.links.items i.bridge g.walk_a in
        let from_b = walk-root plan shape vid rooted s j.bridge (reverse j.links.items) b g.walk_b in
        let both = walk-root plan shape vid rooted s a joined.0 b joined.1 in
        ne (sym root_i ∙ sym from_a ∙ both ∙ sym from_b ∙ root_j)

-- if both sides meet, the links are a path
pub goes-there : (plan : Plan) (shape : Shape) (vid : ℕ) (rooted : Rooted) (a b x : ℕ) (xs : List ℕ) (y : ℕ)
    (ys : List ℕ) → Goes plan shape vid rooted a b x xs y ys
    → x ≡ y → IsPath plan shape vid a (xs ++ reverse ys) b
goes-there plan shape vid rooted a b x xs y ys g e = (
  walk-append plan shape vid a xs y (reverse ys) b (subst (λ z. IsWalk plan shape vid a xs z) e g.walk_a) g.walk_b,
  g.distinct,
)
