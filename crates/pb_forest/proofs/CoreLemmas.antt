-- If links remain and no bridge has exactly one of them, there is no forest, for `forest`.
use Rattle.std.proofs.Common.{◌≡◌, ◌≢◌, ◌⊎◌, inl, inr, ℕ, zero, suc, ◌+◌, ◌<◌, ◌≤◌, true, Some, None, Option, List}
use Rattle.std.proofs.Common.{[], ◌∷◌, slice_get, length, refl, sym, ◌∙◌, subst, unwrap_or, arith}
use Rattle.std.specs.List.{list_any}
use Rattle.std.specs.Option.{is_some}
use Rattle.pb_frame.proofs.Lists.{Some-injective}
use Rattle.pb_forest.proofs.EdgeLemmas.{edge-up}
use Rattle.pb_forest.proofs.GraphLemmas.{at-is, at-most, share-joins, meets-back, meets-degree, off-meets}
use Rattle.pb_forest.proofs.PathLemmas.{IsUp}
use Rattle.pb_forest.proofs.Sums.{total}
use Rattle.pb_forest.specs.Counting.{IsCounted, IsCleared}
use Rattle.pb_forest.specs.Graphs.{share, degree, Joins, Meets, AreTakenOff}
use Rattle.pb_forest.specs.Paths.{depth_of}
use Rattle.pb_forest.specs.Searching.{AreEdges}
use Rattle.pb_forest.specs.declared.graph.Branch.{Branch}
use Rattle.pb_forest.specs.declared.graph.Ends.{Ends}
use Rattle.pb_forest.specs.declared.graph.Graph.{Graph}
use Rattle.pb_lan.specs.Forests.{Shows, IsForest}
use Rattle.pb_lan.specs.Numbering.{numbered}
use Rattle.pb_lan.specs.declared.plan.Plan.{Plan}
use Rattle.pb_lan.specs.declared.shape.Shape.{Shape}
use Rattle.pb_lan.specs.declared.shape.Rooted.{Rooted}

-- a link at the bridge
pub record HasLink (links : List (Option Ends)) (x : ℕ) : Type 0 where
  pub link : ℕ
  pub other : ℕ
  pub meets : Meets links link x other

-- two links at the bridge, or one with both ends there
pub data HasTwo (links : List (Option Ends)) (x : ℕ) : Type 0 where
  Two : (a b : HasLink links x) → a.link ≢ b.link → HasTwo links x
  Loop : (k : ℕ) → Meets links k x x → HasTwo links x

abbrev later : (e : Option Ends) (xs : List (Option Ends)) (x : ℕ) → HasLink xs x → HasLink (e ∷ xs) x
later e xs x h = record {
  link = suc h.link;
  other = h.other;
  meets = record { ends = h.meets.ends; there = h.meets.there; joins = h.meets.joins };
}

two-later : (e : Option Ends) (xs : List (Option Ends)) (x : ℕ) → HasTwo xs x → HasTwo (e ∷ xs) x
two-later e xs x (Two a b n) = Two (later e xs x a) (later e xs x b) (λ h. n (omega (arith, h)))
two-later e xs x (Loop k m) = Loop (suc k) (record { ends = m.ends; there = m.there; joins = m.joins })

abbrev here : (ends : Ends) (xs : List (Option Ends)) (x y : ℕ) → Joins ends x y → HasLink (Some ends ∷ xs) x
here ends xs x y j = record { link = 0; other = y; meets = record { ends = ends; there = refl; joins = j } }

-- if an end of a link is at a bridge, the bridge has a link
pub one-link : (xs : List (Option Ends)) (x : ℕ) → 1 ≤ degree xs x → HasLink xs x
one-link [] x h = absurd (omega (arith, h))
one-link (None ∷ ys) x h = later None ys x (one-link ys x (omega (arith, h)))
one-link (Some ends ∷ ys) x h =
    elim (share (Some ends) x 1) as (λ m. share (Some ends) x 1 ≡ m → HasLink (Some ends ∷ ys) x) [
      | zero ↦ λ e. later (Some ends) ys x (one-link ys x (omega (arith, h, e)))
      | suc m ↦ λ e.
          let j = share-joins (Some ends) x (omega (arith, e)) in
          let i : ends ≡ j.0 = Some-injective j.2 in
          here ends ys x j.1 (subst (λ z. Joins z x j.1) (sym i) j.3)
    ] refl

-- if two ends are at a bridge, it has two links, or one with both ends there
two-links : (xs : List (Option Ends)) (x : ℕ) → 2 ≤ degree xs x → HasTwo xs x
two-links [] x h = absurd (omega (arith, h))
two-links (None ∷ ys) x h = two-later None ys x (two-links ys x (omega (arith, h)))
two-links (Some ends ∷ ys) x h =
    elim (share (Some ends) x 1) as (λ m. share (Some ends) x 1 ≡ m → HasTwo (Some ends ∷ ys) x) [
      | zero ↦ λ e. two-later (Some ends) ys x (two-links ys x (omega (arith, h, e)))
      | suc m ↦ λ e. at_least m e
    ] refl
  where
    at_least : (m : ℕ) → share (Some ends) x 1 ≡ suc m → HasTwo (Some ends ∷ ys) x
    at_least zero e =
        let j = share-joins (Some ends) x (omega (arith, e)) in
        let i : ends ≡ j.0 = Some-injective j.2 in
        let a : HasLink (Some ends ∷ ys) x = here ends ys x j.1 (subst (λ z. Joins z x j.1) (sym i) j.3) in
        let b : HasLink (Some ends ∷ ys) x = later (Some ends) ys x (one-link ys x (omega (arith, h, e))) in
        Two a b (λ g. omega (arith, g))
    at_least (suc m) e =
        let p = at-most ends.a x 1 in
        let q = at-most ends.b x 1 in
        Loop 0 (record {
          ends = ends;
          there = refl;
          joins = inl (at-is ends.a x 1 (omega (arith, e, p, q)), at-is ends.b x 1 (omega (arith, e, p, q)));
        })

-- a deeper bridge with remaining links
pub record HasDeeper (links : List (Option Ends)) (rooted : Rooted) (x : ℕ) : Type 0 where
  pub below : ℕ
  pub degree_there : 1 ≤ degree links below
  pub deeper : depth_of rooted (suc below) ≡ depth_of rooted (suc x) + 1

-- a link leads up from the bridge, or down to a deeper one
up-or-down : (plan : Plan) (shape : Shape) (vid : ℕ) (rooted : Rooted) → Shows plan shape vid rooted
    → (es links : List (Option Ends)) → AreEdges plan shape vid plan.links es
    → ((k x y : ℕ) → Meets links k x y → Meets es k x y) → (x : ℕ) (a : HasLink links x)
    → IsUp plan rooted (suc x) (suc a.link) (suc a.other) ⊎ HasDeeper links rooted x
up-or-down plan shape vid rooted s es links edges of x a =
    by (edge-up plan shape vid rooted s es edges a.link x a.other (of a.link x a.other a.meets))
  where
    by : IsUp plan rooted (suc x) (suc a.link) (suc a.other) ⊎ IsUp plan rooted (suc a.other) (suc a.link) (suc x)
        → IsUp plan rooted (suc x) (suc a.link) (suc a.other) ⊎ HasDeeper links rooted x
    by (inl u) = inl u
    by (inr u) = inr (record {
      below = a.other;
      degree_there = meets-degree links a.link a.other x (meets-back links a.link x a.other a.meets);
      deeper = u.deeper;
    })

two-down : (plan : Plan) (shape : Shape) (vid : ℕ) (rooted : Rooted) → Shows plan shape vid rooted
    → (es links : List (Option Ends)) → AreEdges plan shape vid plan.links es
    → ((k x y : ℕ) → Meets links k x y → Meets es k x y) → (x : ℕ) → HasTwo links x → HasDeeper links rooted x
two-down plan shape vid rooted s es links edges of x (Two a b n) =
    by (up-or-down plan shape vid rooted s es links edges of x a)
    (up-or-down plan shape vid rooted s es links edges of x b)
  where
    by : IsUp plan rooted (suc x) (suc a.link) (suc a.other) ⊎ HasDeeper links rooted x
        → IsUp plan rooted (suc x) (suc b.link) (suc b.other) ⊎ HasDeeper links rooted x → HasDeeper links rooted x
    by (inr d) w = d
    by (inl u) (inr d) = d
    by (inl u) (inl v) =
        let e : suc a.link ≡ suc b.link = Some-injective (Some-injective (sym u.up ∙ v.up)) in
        absurd (n (omega (arith, e)))
two-down plan shape vid rooted s es links edges of x (Loop k m) =
    absurd (by (edge-up plan shape vid rooted s es edges k x x (of k x x m)))
  where
    by : IsUp plan rooted (suc x) (suc k) (suc x) ⊎ IsUp plan rooted (suc x) (suc k) (suc x) → ⊥
    by (inl u) = let d = u.deeper in omega (arith, d)
    by (inr u) = let d = u.deeper in omega (arith, d)

-- a depth is at most the sum of all depths
depth-most : (ds : List ℕ) (x : ℕ) → unwrap_or (numbered ds (suc x)) 0 ≤ total (λ d. d) ds
depth-most (d ∷ ds) (suc x) = let r = depth-most ds x in omega (arith, r)
depth-most _ _ = omega arith

-- a chain of ever deeper bridges contradicts that bound
descends : (plan : Plan) (shape : Shape) (vid : ℕ) (rooted : Rooted) → Shows plan shape vid rooted
    → (es links : List (Option Ends)) → AreEdges plan shape vid plan.links es
    → ((k x y : ℕ) → Meets links k x y → Meets es k x y) → ((x : ℕ) → degree links x ≢ 1) → (n x : ℕ)
    → 1 ≤ degree links x → total (λ d. d) rooted.depth < n + depth_of rooted (suc x) → ⊥
descends plan shape vid rooted s es links edges of none zero x h l = let m = depth-most rooted.depth x in omega
    (arith, l, m)
descends plan shape vid rooted s es links edges of none (suc n) x h l =
    let ne = none x in
    let d = two-down plan shape vid rooted s es links edges of x (two-links links x (omega (arith, h, ne))) in
    let e = d.deeper in
    descends plan shape vid rooted s es links edges of none n d.below d.degree_there (omega (arith, l, e))

-- a link that remains was there before
taken-meets : (old : List (Option Ends)) (bs : List Branch) (new : List (Option Ends)) → AreTakenOff old bs new
    → (k x y : ℕ) → Meets new k x y → Meets old k x y
taken-meets old [] new t k x y m = subst (λ xs. Meets xs k x y) (sym t) m
taken-meets old (b ∷ bs) new t k x y m = off-meets old b.link k x y (taken-meets _ bs new t.1 k x y m)

-- if some link remains, it has an index
some-left : (xs : List (Option Ends)) → list_any is_some xs ≡ true → (k : ℕ) × (ends : Ends)
    × (slice_get xs k ≡ Some (Some ends))
some-left [] h = cc
some-left (Some ends ∷ xs) h = (0, ends, refl)
some-left (None ∷ xs) h = let r = some-left xs h in (suc r.0, r.1, r.2)

-- if the search ends with remaining links, there is no forest
pub core-none : (plan : Plan) (shape : Shape) (vid : ℕ) (es : List (Option Ends)) (bs : List Branch) (g : Graph)
    → AreEdges plan shape vid plan.links es → AreTakenOff es bs g.links.items → IsCounted g
    → IsCleared (length g.degrees.items) g → list_any is_some g.links.items ≡ true → IsForest plan shape vid → ⊥
core-none plan shape vid es bs g edges taken counted clear any (rooted, s) =
    descends plan shape vid rooted s es g.links.items edges (taken-meets es bs g.links.items taken) none
    (suc (total (λ d. d) rooted.depth)) left.1.a
    (meets-degree g.links.items left.0 left.1.a left.1.b
    (record { ends = left.1; there = left.2; joins = inl (refl, refl) })) (omega arith)
  where
    left : (k : ℕ) × (ends : Ends) × (slice_get g.links.items k ≡ Some (Some ends))
    left = some-left g.links.items any

    none : (x : ℕ) → degree g.links.items x ≢ 1
    none x one =
        let a = one-link g.links.items x (omega (arith, one)) in
        clear x (counted.within a.link x a.other a.meets) one
