-- The active links of a plan as a graph, for `graph_of` and the certificate.
use Rattle.std.proofs.Common.{◌≡◌, ◌⊎◌, inl, inr, ℕ, zero, suc, ◌+◌, ◌<◌, true, Some, Option, List, [], ◌∷◌, ◌++◌}
use Rattle.std.proofs.Common.{slice_get, length, take, get_or, refl, sym, ◌∙◌, ap, subst, arith, add-one}
use Rattle.std.proofs.lemmas.List.{take_more}
use Rattle.std.proofs.lemmas.Option.{slice_get_within, slice_get_read}
use Rattle.pb_frame.proofs.Lists.{Some-injective}
use Rattle.pb_forest.proofs.PathLemmas.{IsUp, cross-up}
use Rattle.pb_forest.specs.Graphs.{Joins, Meets}
use Rattle.pb_forest.specs.Searching.{IsEdge, AreEdges}
use Rattle.pb_forest.specs.declared.graph.Ends.{Ends}
use Rattle.pb_lan.specs.Forests.{Shows, Crosses, HasEnds, LeadsUp, HasOneChild}
use Rattle.pb_lan.specs.Numbering.{numbered}
use Rattle.pb_lan.specs.Plans.{IsNumber}
use Rattle.pb_lan.specs.Shapes.{is_active}
use Rattle.pb_lan.specs.declared.plan.Plan.{Plan}
use Rattle.pb_lan.specs.declared.plan.End.{End}
use Rattle.pb_lan.specs.declared.plan.LinkPlan.{LinkPlan}
use Rattle.pb_lan.specs.declared.shape.Shape.{Shape}
use Rattle.pb_lan.specs.declared.shape.Rooted.{Rooted}

pub edges-length : (plan : Plan) (shape : Shape) (vid : ℕ) (ls : List LinkPlan) (es : List (Option Ends))
    → AreEdges plan shape vid ls es → length es ≡ length ls
edges-length plan shape vid [] [] h = refl
edges-length plan shape vid (l ∷ ls) (e ∷ es) h = ap (λ n. suc n) (edges-length plan shape vid ls es h.1)
edges-length plan shape vid _ _ h = absurd h

-- the edge of a link of the plan
pub edges-at : (plan : Plan) (shape : Shape) (vid : ℕ) (ls : List LinkPlan) (es : List (Option Ends)) (k : ℕ)
    (link : LinkPlan) → AreEdges plan shape vid ls es → slice_get ls k ≡ Some link
    → (e : Option Ends) × (slice_get es k ≡ Some e) × IsEdge plan shape vid link e
edges-at plan shape vid [] es k link h g = cc
edges-at plan shape vid (l ∷ ls) [] k link h g = absurd h
edges-at plan shape vid (l ∷ ls) (e ∷ es) zero link h g =
    (e, refl, subst (λ x. IsEdge plan shape vid x e) (Some-injective g) h.0)
edges-at plan shape vid (l ∷ ls) (e ∷ es) (suc k) link h g = edges-at plan shape vid ls es k link h.1 g

-- the link of an edge
pub edges-back : (plan : Plan) (shape : Shape) (vid : ℕ) (ls : List LinkPlan) (es : List (Option Ends)) (k : ℕ)
    (e : Option Ends) → AreEdges plan shape vid ls es → slice_get es k ≡ Some e
    → (link : LinkPlan) × (slice_get ls k ≡ Some link) × IsEdge plan shape vid link e
edges-back plan shape vid ls [] k e h g = cc
edges-back plan shape vid [] (d ∷ es) k e h g = absurd h
edges-back plan shape vid (l ∷ ls) (d ∷ es) zero e h g =
    (l, refl, subst (IsEdge plan shape vid l) (Some-injective g) h.0)
edges-back plan shape vid (l ∷ ls) (d ∷ es) (suc k) e h g = edges-back plan shape vid ls es k e h.1 g

edges-push : (plan : Plan) (shape : Shape) (vid : ℕ) (ls : List LinkPlan) (es : List (Option Ends)) (l : LinkPlan)
    (e : Option Ends) → AreEdges plan shape vid ls es → IsEdge plan shape vid l e
    → AreEdges plan shape vid (ls ++ l ∷ []) (es ++ e ∷ [])
edges-push plan shape vid [] [] l e h g = (g, tt)
edges-push plan shape vid (k ∷ ls) (d ∷ es) l e h g = (h.0, edges-push plan shape vid ls es l e h.1 g)
edges-push plan shape vid _ _ l e h g = absurd h

-- one more link, for the loop of `graph_of`
pub edges-more : (plan : Plan) (shape : Shape) (vid : ℕ) (items : List LinkPlan) (i : ℕ) (es new : List (Option Ends))
    (l : LinkPlan) (e : Option Ends) → i < length items → l ≡ get_or items i l
    → AreEdges plan shape vid (take i items) es → IsEdge plan shape vid l e → new ≡ es ++ e ∷ []
    → AreEdges plan shape vid (take (i + 1) items) new
edges-more plan shape vid items i es new l e less is h g n =
    subst (AreEdges plan shape vid (take (i + 1) items)) (sym n)
    (subst (λ xs. AreEdges plan shape vid xs (es ++ e ∷ [])) (sym (take_more items i l less))
    (edges-push plan shape vid (take i items) es (get_or items i l) e h (subst (λ x. IsEdge plan shape vid x e) is g)))

-- an active link of the plan between two bridges
pub record CrossesAt (plan : Plan) (shape : Shape) (vid k x y : ℕ) : Type 0 where
  pub near : End
  pub far : End
  pub crosses : Crosses plan shape vid (suc k) near far
  pub from : near.bridge ≡ suc x
  pub to : far.bridge ≡ suc y

pub crosses-at : (plan : Plan) (shape : Shape) (vid : ℕ) (es : List (Option Ends))
    → AreEdges plan shape vid plan.links es → (k x y : ℕ) → Meets es k x y → CrossesAt plan shape vid k x y
crosses-at plan shape vid es h k x y m = by m.joins
  where
    back : (link : LinkPlan) × (slice_get plan.links k ≡ Some link) × IsEdge plan shape vid link (Some m.ends)
    back = edges-back plan shape vid plan.links es k (Some m.ends) h m.there

    a : back.0.a.bridge ≡ suc m.ends.a
    a = back.2.1.0 ∙ add-one m.ends.a

    b : back.0.b.bridge ≡ suc m.ends.b
    b = back.2.1.1 ∙ add-one m.ends.b

    by : Joins m.ends x y → CrossesAt plan shape vid k x y
    by (inl j) = record {
      near = back.0.a;
      far = back.0.b;
      crosses = record { link = back.0; numbered_so = back.1; active = back.2.0; ends = inl (refl, refl) };
      from = a ∙ ap (λ n. suc n) j.0;
      to = b ∙ ap (λ n. suc n) j.1;
    }
    by (inr j) = record {
      near = back.0.b;
      far = back.0.a;
      crosses = record { link = back.0; numbered_so = back.1; active = back.2.0; ends = inr (refl, refl) };
      from = b ∙ ap (λ n. suc n) j.0;
      to = a ∙ ap (λ n. suc n) j.1;
    }

-- in a forest, a link leads up from one of its bridges
pub edge-up : (plan : Plan) (shape : Shape) (vid : ℕ) (rooted : Rooted) → Shows plan shape vid rooted
    → (es : List (Option Ends)) → AreEdges plan shape vid plan.links es → (k x y : ℕ) → Meets es k x y
    → IsUp plan rooted (suc x) (suc k) (suc y) ⊎ IsUp plan rooted (suc y) (suc k) (suc x)
edge-up plan shape vid rooted s es h k x y m = by (cross-up plan shape vid rooted s (suc k) c.near c.far c.crosses)
  where
    c : CrossesAt plan shape vid k x y
    c = crosses-at plan shape vid es h k x y m

    by : IsUp plan rooted c.near.bridge (suc k) c.far.bridge ⊎ IsUp plan rooted c.far.bridge (suc k) c.near.bridge
        → IsUp plan rooted (suc x) (suc k) (suc y) ⊎ IsUp plan rooted (suc y) (suc k) (suc x)
    by (inl u) = inl (subst (λ a. IsUp plan rooted a (suc k) (suc y)) c.from
        (subst (λ b. IsUp plan rooted c.near.bridge (suc k) b) c.to u))
    by (inr u) = inr (subst (λ a. IsUp plan rooted a (suc k) (suc x)) c.to
        (subst (λ b. IsUp plan rooted c.far.bridge (suc k) b) c.from u))

-- a list with an entry for a bridge has at least as many entries as the bridge's number
entry-number : (ds : List ℕ) (b d : ℕ) → numbered ds b ≡ Some d → IsNumber b (length ds)
entry-number ds zero d h = cc
entry-number ds (suc n) d h = let w = slice_get_within ds n d h in (omega arith, omega (arith, w))

-- in a forest, each active link joins bridges of the plan
pub ends-there : (plan : Plan) (shape : Shape) (vid : ℕ) (rooted : Rooted) → Shows plan shape vid rooted
    → (items : List LinkPlan) (i : ℕ) (link : LinkPlan) → items ≡ plan.links → i < length items
    → link ≡ get_or items i link
    → is_active plan shape vid link ≡ true → IsNumber link.a.bridge (length plan.bridges)
    × IsNumber link.b.bridge (length plan.bridges)
ends-there plan shape vid rooted s items i link e less is active = by way.crosses.ends
  where
    there : slice_get plan.links i ≡ Some link
    there = ap (λ xs. slice_get xs i) (sym e) ∙ slice_get_read items (length items) i link refl less is

    child : HasOneChild rooted (suc i)
    child = s.children (suc i) link there active

    way : LeadsUp plan shape vid rooted child.child (suc i)
    way = s.ways_up child.child (suc i) child.up

    one : way.crosses.link ≡ link
    one = Some-injective (sym way.crosses.numbered_so ∙ there)

    near : IsNumber way.near.bridge (length plan.bridges)
    near = subst (λ b. IsNumber b (length plan.bridges)) (sym way.from)
        (subst (IsNumber child.child) s.depths (entry-number rooted.depth child.child (way.depth + 1) way.depth_here))

    far : IsNumber way.far.bridge (length plan.bridges)
    far = subst (IsNumber way.far.bridge) s.depths (entry-number rooted.depth way.far.bridge way.depth way.depth_above)

    is_near : (x : End) → x ≡ way.near → IsNumber x.bridge (length plan.bridges)
    is_near x h = subst (λ (z : End). IsNumber z.bridge (length plan.bridges)) (sym h) near

    is_far : (x : End) → x ≡ way.far → IsNumber x.bridge (length plan.bridges)
    is_far x h = subst (λ (z : End). IsNumber z.bridge (length plan.bridges)) (sym h) far

    by : HasEnds way.crosses.link way.near way.far → IsNumber link.a.bridge (length plan.bridges)
        × IsNumber link.b.bridge (length plan.bridges)
    by (inl h) = (
      is_near link.a (ap (λ (l : LinkPlan). l.a) (sym one) ∙ h.0),
      is_far link.b
          (ap (λ (l : LinkPlan). l.b) (sym one) ∙ h.1),
    )
    by (inr h) = (
      is_far link.a (ap (λ (l : LinkPlan). l.a) (sym one) ∙ h.1),
      is_near link.b
          (ap (λ (l : LinkPlan). l.b) (sym one) ∙ h.0),
    )
