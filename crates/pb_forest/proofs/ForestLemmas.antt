-- If all links are removed, the branches give a certificate, for `forest`.
use Rattle.std.proofs.Common.{◌≡◌, ◌≢◌, ◌⊎◌, inl, inr, ℕ, zero, suc, ◌+◌, ◌<◌, ◌≤◌, ◌==◌, true, false, cond, Some}
use Rattle.std.proofs.Common.{None, Option, List, [], ◌∷◌, slice_get, slice_set, length, refl, sym, ◌∙◌, ap, subst}
use Rattle.std.proofs.Common.{arith, add-one}
use Rattle.std.proofs.lemmas.Bool.{eqb-true}
use Rattle.std.proofs.lemmas.Option.{slice_get_within}
use Rattle.std.specs.List.{AllByRecursion, list_any}
use Rattle.std.specs.Option.{is_some}
use Rattle.pb_frame.proofs.Lists.{Some-injective, All-at, All-imply, eqb-refl}
use Rattle.pb_frame.proofs.Things.{put_there, put_elsewhere}
use Rattle.pb_lan.proofs.Numbers.{numbered-place}
use Rattle.pb_forest.proofs.EdgeLemmas.{CrossesAt, crosses-at, edges-at}
use Rattle.pb_forest.proofs.GraphLemmas.{at-same, joins-share, degree-off, off-meets}
use Rattle.pb_forest.proofs.GraphLemmas.{meets-back, meets-degree, loop-degree}
use Rattle.pb_forest.proofs.PeelingLemmas.{left-most, taken-count}
use Rattle.pb_forest.specs.Graphs.{at, degree, Meets, AreTakenOff, AreWithin}
use Rattle.pb_forest.specs.Rooting.{way_up, depth_below, IsRootedBy, IsNear}
use Rattle.pb_forest.specs.Searching.{AreEdges, IsEdge}
use Rattle.pb_forest.specs.declared.graph.Branch.{Branch}
use Rattle.pb_forest.specs.declared.graph.Ends.{Ends}
use Rattle.pb_lan.specs.Forests.{Shows, Crosses, LeadsUp, HasOneChild}
use Rattle.pb_lan.specs.Numbering.{numbered}
use Rattle.pb_lan.specs.Shapes.{is_active}
use Rattle.pb_lan.specs.declared.plan.Plan.{Plan}
use Rattle.pb_lan.specs.declared.plan.LinkPlan.{LinkPlan}
use Rattle.pb_lan.specs.declared.shape.Shape.{Shape}
use Rattle.pb_lan.specs.declared.shape.Rooted.{Rooted}

-- a later branch has neither the bridge nor the link of an earlier one
pub record IsApart (b c : Branch) : Type 0 where
  pub bridge : c.bridge ≢ b.bridge
  pub above : c.above ≢ b.bridge
  pub link : c.link ≢ b.link

-- each branch is apart from all later ones
abbrev pub Unwinds : List Branch → Type 0
Unwinds [] = Unit {0}
Unwinds (b ∷ bs) = AllByRecursion (IsApart b) bs × (b.above ≢ b.bridge) × Unwinds bs

-- if no link remains at a bridge, no branch concerns it
untouched : (old : List (Option Ends)) (bs : List Branch) (new : List (Option Ends)) (x : ℕ) → degree old x ≡ 0
    → AreTakenOff old bs new → AllByRecursion (λ c. (c.bridge ≢ x) × (c.above ≢ x)) bs
untouched old [] new x z t = tt
untouched old (b ∷ bs) new x z t = ((near, far), untouched (slice_set old b.link None) bs new x rest t.1)
  where
    near : b.bridge ≢ x
    near e = let d = meets-degree old b.link b.bridge b.above t.0.link in let s = ap (degree old) e in omega
        (arith, d, s, z)

    far : b.above ≢ x
    far e =
        let d = meets-degree old b.link b.above b.bridge (meets-back old b.link b.bridge b.above t.0.link) in
        let s = ap (degree old) e in
        omega (arith, d, s, z)

    rest : degree (slice_set old b.link None) x ≡ 0
    rest = let o = degree-off old b.link (Some t.0.link.ends) x t.0.link.there in omega (arith, o, z)

-- a removed link is not that of a later branch
unlinked : (old : List (Option Ends)) (bs : List Branch) (new : List (Option Ends)) (k : ℕ)
    → slice_get old k ≡ Some None → AreTakenOff old bs new → AllByRecursion (λ c. c.link ≢ k) bs
unlinked old [] new k h t = tt
unlinked old (b ∷ bs) new k h t = (
  other,
  unlinked (slice_set old b.link None) bs new k (put_elsewhere old b.link k None (λ e. other (sym e)) ∙ h)
      t.1,
)
  where
    other : b.link ≢ k
    other e = let f : Some None ≡ Some (Some t.0.link.ends) = sym h ∙ ap (slice_get old) (sym e)
        ∙ t.0.link.there in let g : None ≡ Some t.0.link.ends = Some-injective f in cc

both : (P Q R : Branch → Type 0) → ((c : Branch) → P c → Q c → R c) → (bs : List Branch) → AllByRecursion P bs
    → AllByRecursion Q bs → AllByRecursion R bs
both P Q R f [] p q = tt
both P Q R f (c ∷ cs) p q = (f c p.0 q.0, both P Q R f cs p.1 q.1)

pub taken-unwinds : (old : List (Option Ends)) (bs : List Branch) (new : List (Option Ends)) → AreTakenOff old bs new
    → Unwinds bs
taken-unwinds old [] new t = tt
taken-unwinds old (b ∷ bs) new t = (apart, apart_above, taken-unwinds (slice_set old b.link None) bs new t.1)
  where
    apart_above : b.above ≢ b.bridge
    apart_above e =
        let d = loop-degree old b.link b.bridge (subst (Meets old b.link b.bridge) e t.0.link) in
        let l = t.0.last in
        omega (arith, d, l)

    nothing : degree (slice_set old b.link None) b.bridge ≡ 0
    nothing =
        let o = degree-off old b.link (Some t.0.link.ends) b.bridge t.0.link.there in
        let s = joins-share t.0.link.ends b.bridge b.above b.bridge 1 t.0.link.joins in
        let a = at-same b.bridge 1 in
        let l = t.0.last in
        omega (arith, o, s, a, l)

    gone : slice_get (slice_set old b.link None) b.link ≡ Some None
    gone = put_there old b.link None (slice_get_within old b.link (Some t.0.link.ends) t.0.link.there)

    apart : AllByRecursion (IsApart b) bs
    apart =
        both (λ c. (c.bridge ≢ b.bridge) × (c.above ≢ b.bridge)) (λ c. c.link ≢ b.link) (IsApart b)
        (λ c p q. record { bridge = p.0; above = p.1; link = q }) bs
        (untouched (slice_set old b.link None) bs new b.bridge nothing t.1)
        (unlinked (slice_set old b.link None) bs new b.link gone t.1)

-- each branch was a link of the graph
pub taken-met : (old : List (Option Ends)) (bs : List Branch) (new : List (Option Ends)) → AreTakenOff old bs new
    → AllByRecursion (λ c. Meets old c.link c.bridge c.above) bs
taken-met old [] new t = tt
taken-met old (b ∷ bs) new t = (
  t.0.link,
  All-imply (λ c. Meets (slice_set old b.link None) c.link c.bridge c.above) (λ c. Meets old c.link c.bridge c.above)
      (λ c m. off-meets old b.link c.link c.bridge c.above m) bs
      (taken-met (slice_set old b.link None) bs new t.1),
)

-- the branch is in the list
pub record IsBranch (bs : List Branch) (c : Branch) : Type 0 where
  pub place : ℕ
  pub there : slice_get bs place ≡ Some c

-- a branch in the list was a link of the graph
branch-met : (old : List (Option Ends)) (bs : List Branch) (new : List (Option Ends)) → AreTakenOff old bs new
    → (c : Branch) → IsBranch bs c → Meets old c.link c.bridge c.above
branch-met old bs new t c i = All-at (λ d. Meets old d.link d.bridge d.above) bs i.place c i.there
    (taken-met old bs new t)

-- each link remains, or is that of a branch
pub taken-covers : (old : List (Option Ends)) (bs : List Branch) (new : List (Option Ends)) (k : ℕ) (ends : Ends)
    → AreTakenOff old bs new → slice_get old k ≡ Some (Some ends)
    → (slice_get new k ≡ Some (Some ends)) ⊎ ((c : Branch) × IsBranch bs c × (c.link ≡ k))
taken-covers old [] new k ends t h = inl (ap (λ xs. slice_get xs k) (sym t) ∙ h)
taken-covers old (b ∷ bs) new k ends t h =
    elim (b.link == k) as (λ e. (b.link == k) ≡ e → (slice_get new k ≡ Some (Some ends))
    ⊎ ((c : Branch) × IsBranch (b ∷ bs) c × (c.link ≡ k))) [
      | true ↦ λ e. inr (b, record { place = 0; there = refl }, eqb-true b.link k e)
      | false ↦ λ e.
          let ne : k ≢ b.link = grind (arith, e) in
          by (taken-covers (slice_set old b.link None) bs new k ends t.1 (put_elsewhere old b.link k None ne ∙ h))
    ] refl
  where
    by : (slice_get new k ≡ Some (Some ends)) ⊎ ((c : Branch) × IsBranch bs c × (c.link ≡ k))
        → (slice_get new k ≡ Some (Some ends)) ⊎ ((c : Branch) × IsBranch (b ∷ bs) c × (c.link ≡ k))
    by (inl n) = inl n
    by (inr w) = inr (w.0, record { place = suc w.1.place; there = w.1.there }, w.2)

-- if no link remains, each link is that of a branch
none-left : (xs : List (Option Ends)) (k : ℕ) (ends : Ends) → list_any is_some xs ≡ false
    → slice_get xs k ≡ Some (Some ends) → ⊥
none-left (None ∷ xs) zero ends h g = let e : None ≡ Some ends = Some-injective g in cc
none-left (None ∷ xs) (suc k) ends h g = none-left xs k ends h g
none-left _ k ends h g = cc

-- the branch of a link that leads up from a bridge
pub record HasBranch (bs : List Branch) (x number : ℕ) : Type 0 where
  pub branch : Branch
  pub there : IsBranch bs branch
  pub bridge : branch.bridge ≡ x
  pub link : branch.link + 1 ≡ number
  pub deeper : depth_below bs x ≡ depth_below bs branch.above + 1

-- the way up of a bridge that is not that of the first branch
past-bridge : (b : Branch) (bs : List Branch) (x : ℕ) → b.bridge ≢ x → (way_up (b ∷ bs) x ≡ way_up bs x)
    × (depth_below (b ∷ bs) x ≡ depth_below bs x)
past-bridge b bs x n =
    elim (b.bridge == x) as (λ t. (b.bridge == x) ≡ t → (cond t (Some (b.link + 1)) (way_up bs x) ≡ way_up bs x)
    × (cond t (depth_below bs b.above + 1) (depth_below bs x) ≡ depth_below bs x)) [
      | true ↦ λ t. absurd (n (eqb-true b.bridge x t))
      | false ↦ λ t. (refl, refl)
    ] refl

-- the way up of the first branch's bridge
at-bridge : (b : Branch) (bs : List Branch) → (way_up (b ∷ bs) b.bridge ≡ Some (b.link + 1))
    × (depth_below (b ∷ bs) b.bridge ≡ depth_below bs b.above + 1)
at-bridge b bs = (
  ap (λ t. cond t (Some (b.link + 1)) (way_up bs b.bridge)) (eqb-refl b.bridge),
  ap
      (λ t. cond t (depth_below bs b.above + 1) (depth_below bs b.bridge)) (eqb-refl b.bridge),
)

pub way-branch : (bs : List Branch) (x number : ℕ) → Unwinds bs → way_up bs x ≡ Some number → HasBranch bs x number
way-branch [] x number u h = cc
way-branch (b ∷ bs) x number u h =
    elim (b.bridge == x) as (λ t. (b.bridge == x) ≡ t → HasBranch (b ∷ bs) x number) [
      | true ↦ λ t. here (eqb-true b.bridge x t)
      | false ↦ λ t. let ne : b.bridge ≢ x = grind (arith, t) in later ne
          (way-branch bs x number u.2 (sym (past-bridge b bs x ne).0 ∙ h))
    ] refl
  where
    here : b.bridge ≡ x → HasBranch (b ∷ bs) x number
    here e = record {
      branch = b;
      there = record { place = 0; there = refl };
      bridge = e;
      link = Some-injective (sym (at-bridge b bs).0 ∙ ap (way_up (b ∷ bs)) e ∙ h);
      deeper = ap (depth_below (b ∷ bs)) (sym e) ∙ (at-bridge b bs).1
          ∙ ap (λ n. n + 1) (sym (past-bridge b bs b.above (λ i. u.1 (sym i))).1);
    }

    later : b.bridge ≢ x → HasBranch bs x number → HasBranch (b ∷ bs) x number
    later ne w = record {
      branch = w.branch;
      there = record { place = suc w.there.place; there = w.there.there };
      bridge = w.bridge;
      link = w.link;
      deeper = (past-bridge b bs x ne).1 ∙ w.deeper
          ∙ ap (λ n. n + 1) (sym (past-bridge b bs w.branch.above
          (λ i. (All-at (IsApart b) bs w.there.place w.branch w.there.there u.0).above (sym i))).1);
    }

-- a bridge without a link that leads up has depth 0
pub root-depth : (bs : List Branch) (x : ℕ) → way_up bs x ≡ None → depth_below bs x ≡ 0
root-depth [] x h = refl
root-depth (b ∷ bs) x h =
    elim (b.bridge == x) as (λ t. cond t (Some (b.link + 1)) (way_up bs x) ≡ None → cond t
    (depth_below bs b.above + 1) (depth_below bs x) ≡ 0) [
      | true ↦ λ k. cc
      | false ↦ λ k. root-depth bs x k
    ] h

-- a branch's link leads up from its bridge
pub branch-way : (bs : List Branch) (c : Branch) → Unwinds bs → IsBranch bs c → way_up bs c.bridge ≡ Some (c.link + 1)
branch-way bs c u i = at_place bs i.place u i.there
  where
    at_place : (bs : List Branch) (n : ℕ) → Unwinds bs → slice_get bs n ≡ Some c
        → way_up bs c.bridge ≡ Some (c.link + 1)
    at_place [] n u h = cc
    at_place (b ∷ bs) zero u h = subst (λ (d : Branch). way_up (b ∷ bs) d.bridge ≡ Some (d.link + 1))
        (Some-injective h) (at-bridge b bs).0
    at_place (b ∷ bs) (suc n) u h =
        (past-bridge b bs c.bridge (λ i. (All-at (IsApart b) bs n c h u.0).bridge (sym i))).0 ∙ at_place bs n u.2 h

-- two branches with the same link are one
pub branch-once : (bs : List Branch) (c d : Branch) → Unwinds bs → IsBranch bs c → IsBranch bs d → c.link ≡ d.link
    → c ≡ d
branch-once bs c d u i j e = at_places bs i.place j.place u i.there j.there
  where
    at_places : (bs : List Branch) (m n : ℕ) → Unwinds bs → slice_get bs m ≡ Some c → slice_get bs n ≡ Some d → c ≡ d
    at_places [] m n u h g = cc
    at_places (b ∷ bs) zero zero u h g = sym (Some-injective h) ∙ Some-injective g
    at_places (b ∷ bs) zero (suc n) u h g =
        absurd ((All-at (IsApart b) bs n d g u.0).link (sym e ∙ ap (λ (x : Branch). x.link) (sym (Some-injective h))))
    at_places (b ∷ bs) (suc m) zero u h g =
        absurd ((All-at (IsApart b) bs m c h u.0).link (e ∙ ap (λ (x : Branch). x.link) (sym (Some-injective g))))
    at_places (b ∷ bs) (suc m) (suc n) u h g = at_places bs m n u.2 h g

-- all branches are of these bridges and links
pub taken-near : (n : ℕ) (old : List (Option Ends)) (bs : List Branch) (new : List (Option Ends)) → AreWithin n old
    → length old ≤ 255 → AreTakenOff old bs new → AllByRecursion (IsNear n) bs
taken-near n old bs new w few t =
    All-imply (λ c. Meets old c.link c.bridge c.above) (IsNear n)
    (λ c m. record {
      bridge = w c.link c.bridge c.above m;
      above = w c.link c.above c.bridge (meets-back old c.link c.bridge c.above m);
      link = let l = slice_get_within old c.link (Some m.ends) m.there in omega (arith, l, few);
    }) bs (taken-met old bs new t)

-- there are at most 255 branches
pub taken-few : (old : List (Option Ends)) (bs : List Branch) (new : List (Option Ends)) → length old ≤ 255
    → AreTakenOff old bs new → length bs ≤ 255
taken-few old bs new few t = let c = taken-count old bs new t in let m = left-most old in omega (arith, c, m, few)

-- the links of a shape were all removed, and parents and depths are by the branches
record IsPeeled (plan : Plan) (shape : Shape) (vid : ℕ) (es : List (Option Ends)) (bs : List Branch)
    (new : List (Option Ends)) (rooted : Rooted) : Type 0 where
  edges : AreEdges plan shape vid plan.links es
  within : AreWithin (length plan.bridges) es
  taken : AreTakenOff es bs new
  none : list_any is_some new ≡ false
  by : IsRootedBy (length plan.bridges) bs rooted

-- the entries of the result
module _ {plan : Plan} {shape : Shape} {vid : ℕ} {es : List (Option Ends)} {bs : List Branch}
    {new : List (Option Ends)} {rooted : Rooted} (p : IsPeeled plan shape vid es bs new rooted) where
  -- an entry is of one of the bridges
  entry-inside : (x : ℕ) (up : Option ℕ) → slice_get rooted.up x ≡ Some up → x < length plan.bridges
  entry-inside x up h = let w = slice_get_within rooted.up x up h in let l = p.by.ups in omega (arith, w, l)

  -- an entry is the way up by the branches
  entry-way : (x : ℕ) (up : Option ℕ) → slice_get rooted.up x ≡ Some up → way_up bs x ≡ up
  entry-way x up h = Some-injective (sym (p.by.up x (entry-inside x up h)) ∙ h)

  -- an entry leads to a bridge whose depth is one less
  entry-leads : (x number : ℕ) → slice_get rooted.up x ≡ Some (Some number)
      → LeadsUp plan shape vid rooted (suc x) number
  entry-leads x number h = record {
    near = at.near;
    far = at.far;
    crosses = subst (λ n. Crosses plan shape vid n at.near at.far) (sym (add-one w.branch.link) ∙ w.link) at.crosses;
    from = at.from ∙ ap (λ n. suc n) w.bridge;
    depth = depth_below bs w.branch.above;
    depth_above = ap (numbered rooted.depth) at.to
        ∙ p.by.depth w.branch.above
        (p.within w.branch.link w.branch.above w.branch.bridge
        (meets-back es w.branch.link w.branch.bridge w.branch.above
        (branch-met es bs new p.taken w.branch w.there)));
    depth_here = p.by.depth x (entry-inside x (Some number) h) ∙ ap (λ n. Some n) w.deeper;
  }
    where
      w : HasBranch bs x number
      w = way-branch bs x number (taken-unwinds es bs new p.taken) (entry-way x (Some number) h)

      at : CrossesAt plan shape vid w.branch.link w.branch.bridge w.branch.above
      at = crosses-at plan shape vid es p.edges w.branch.link w.branch.bridge w.branch.above
          (branch-met es bs new p.taken w.branch w.there)

-- the bridges from which a link leads up
module _ {plan : Plan} {shape : Shape} {vid : ℕ} {es : List (Option Ends)} {bs : List Branch}
    {new : List (Option Ends)} {rooted : Rooted} (p : IsPeeled plan shape vid es bs new rooted) where
  -- a branch's link leads up from its bridge alone
  branch-child : (c : Branch) → IsBranch bs c → HasOneChild rooted (suc c.link)
  branch-child c i = record {
    child = suc c.bridge;
    up = p.by.up c.bridge (p.within c.link c.bridge c.above (branch-met es bs new p.taken c i))
        ∙ ap (λ (o : Option ℕ). Some o)
        (branch-way bs c (taken-unwinds es bs new p.taken) i ∙ ap (λ n. Some n) (add-one c.link));
    only = λ other g.
        let place = numbered-place rooted.up other (Some (suc c.link)) g in
        let w = way-branch bs place.0 (suc c.link) (taken-unwinds es bs new p.taken)
        (entry-way p place.0 (Some (suc c.link)) place.2) in
        let l = w.link in
        let same : w.branch ≡ c = branch-once bs w.branch c (taken-unwinds es bs new p.taken) w.there i
        (omega (arith, l)) in
        place.1 ∙ ap (λ n. suc n) (sym w.bridge ∙ ap (λ (d : Branch). d.bridge) same);
  }

  -- each active link is that of a branch
  link-child : (k : ℕ) (link : LinkPlan) → slice_get plan.links k ≡ Some link → is_active plan shape vid link ≡ true
      → HasOneChild rooted (suc k)
  link-child k link h a = by_edge (edges-at plan shape vid plan.links es k link p.edges h)
    where
      by_edge : (e : Option Ends) × (slice_get es k ≡ Some e) × IsEdge plan shape vid link e
          → HasOneChild rooted (suc k)
      by_edge (None, at, is) = absurd cc
      by_edge (Some ends, at, is) = elim (taken-covers es bs new k ends p.taken at) [
        | inl left_there ↦ absurd (none-left new k ends p.none left_there)
        | inr w ↦ subst (λ n. HasOneChild rooted (suc n)) w.2 (branch-child w.0 w.1)
      ]

-- parents and depths by the branches are a certificate
pub shows-taken : (plan : Plan) (shape : Shape) (vid : ℕ) (es : List (Option Ends)) (bs : List Branch)
    (new : List (Option Ends)) (rooted : Rooted) → AreEdges plan shape vid plan.links es
    → AreWithin (length plan.bridges) es
    → AreTakenOff es bs new → list_any is_some new ≡ false → IsRootedBy (length plan.bridges) bs rooted
    → Shows plan shape vid rooted
shows-taken plan shape vid es bs new rooted edges within taken none by =
    let p : IsPeeled plan shape vid es bs new rooted =
    record { edges = edges; within = within; taken = taken; none = none; by = by } in
    record {
      parents = by.ups;
      depths = by.depths;
      ways_up = λ bridge number h.
          let place = numbered-place rooted.up bridge (Some number) h in
          subst (λ b. LeadsUp plan shape vid rooted b number) (sym place.1) (entry-leads p place.0 number place.2);
      roots = λ bridge h.
          let place = numbered-place rooted.up bridge None h in
          ap (numbered rooted.depth) place.1 ∙ by.depth place.0 (entry-inside p place.0 None place.2)
          ∙ ap (λ n. Some n) (root-depth bs place.0 (entry-way p place.0 None place.2));
      children = λ number link h a.
          let place = numbered-place plan.links number link h in
          subst (HasOneChild rooted) (sym place.1) (link-child p place.0 link place.2 a);
    }
