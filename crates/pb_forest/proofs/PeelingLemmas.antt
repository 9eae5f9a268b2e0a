-- Bridges are removed one after the other, for `climb` and `peel`.
use Rattle.std.proofs.Common.{◌≡◌, ◌≢◌, ℕ, zero, suc, ◌+◌, ◌≤◌, ◌==◌, true, false, Some, None, Option, List, [], ◌∷◌}
use Rattle.std.proofs.Common.{◌++◌, slice_get, slice_set, length, refl, sym, ◌∙◌, ap, subst, arith, append_assoc}
use Rattle.std.proofs.Common.{append-nil}
use Rattle.std.proofs.lemmas.Bool.{eqb-true}
use Rattle.pb_frame.proofs.Lists.{Some-injective}
use Rattle.pb_forest.proofs.GraphLemmas.{at-same, at-other, joins-share, degree-off}
use Rattle.pb_forest.specs.Counting.{IsCounted, IsNext, TakesOff}
use Rattle.pb_forest.specs.Graphs.{at, share, degree, IsLast, AreTakenOff}
use Rattle.pb_forest.specs.declared.graph.Branch.{Branch}
use Rattle.pb_forest.specs.declared.graph.Ends.{Ends}
use Rattle.pb_forest.specs.declared.graph.Graph.{Graph}

-- the number of links that remain
abbrev pub left : List (Option Ends) → ℕ
left [] = 0
left (None ∷ xs) = left xs
left (Some ends ∷ xs) = left xs + 1

pub left-most : (xs : List (Option Ends)) → left xs ≤ length xs
left-most [] = omega arith
left-most (None ∷ xs) = let r = left-most xs in omega (arith, r)
left-most (Some ends ∷ xs) = let r = left-most xs in omega (arith, r)

pub left-off : (xs : List (Option Ends)) (k : ℕ) (ends : Ends) → slice_get xs k ≡ Some (Some ends)
    → left (slice_set xs k None) + 1 ≡ left xs
left-off [] k ends h = cc
left-off (None ∷ xs) zero ends h = let e : None ≡ Some ends = Some-injective h in cc
left-off (Some es ∷ xs) zero ends h = refl
left-off (None ∷ xs) (suc k) ends h = left-off xs k ends h
left-off (Some es ∷ xs) (suc k) ends h = let r = left-off xs k ends h in omega (arith, r)

-- each branch removes one link
pub taken-count : (old : List (Option Ends)) (bs : List Branch) (new : List (Option Ends)) → AreTakenOff old bs new
    → length bs + left new ≡ left old
taken-count old [] new t = let e = ap left t in omega (arith, e)
taken-count old (b ∷ bs) new t =
    let r = taken-count (slice_set old b.link None) bs new t.1 in
    let o = left-off old b.link t.0.link.ends t.0.link.there in
    omega (arith, r, o)

-- one more branch
taken-append : (old : List (Option Ends)) (bs : List Branch) (mid : List (Option Ends)) (b : Branch)
    → AreTakenOff old bs mid → IsLast mid b
    → AreTakenOff old (bs ++ b ∷ []) (slice_set mid b.link None)
taken-append old [] mid b t l = (subst (λ xs. IsLast xs b) (sym t) l, ap (λ xs. slice_set xs b.link None) t)
taken-append old (c ∷ bs) mid b t l = (t.0, taken-append (slice_set old c.link None) bs mid b t.1 l)

pub takes-none : (g : Graph) (bs : List Branch) → IsCounted g → TakesOff g g bs bs
takes-none g bs c = record { counted = c; bridges = refl; more = []; added = sym (append-nil bs); taken = refl }

pub takes-more : (old mid new : Graph) (before after : List Branch) (b : Branch) → TakesOff old mid before after
    → IsLast mid.links.items b → IsNext mid new (slice_set mid.links.items b.link None)
    → TakesOff old new before (after ++ b ∷ [])
takes-more old mid new before after b t l n = record {
  counted = n.counted;
  bridges = n.bridges ∙ t.bridges;
  more = t.more ++ b ∷ [];
  added = ap (λ (xs : List Branch). xs ++ b ∷ []) t.added ∙ append_assoc before t.more (b ∷ []);
  taken = subst (AreTakenOff old.links.items (t.more ++ b ∷ [])) (sym n.joined)
      (taken-append old.links.items t.more mid.links.items b t.taken l);
}

-- two lists of branches, one after the other
taken-both : (old : List (Option Ends)) (bs : List Branch) (mid : List (Option Ends)) (cs : List Branch)
    (new : List (Option Ends)) → AreTakenOff old bs mid → AreTakenOff mid cs new → AreTakenOff old (bs ++ cs) new
taken-both old [] mid cs new t u = subst (λ xs. AreTakenOff xs cs new) (sym t) u
taken-both old (b ∷ bs) mid cs new t u = (t.0, taken-both (slice_set old b.link None) bs mid cs new t.1 u)

pub takes-both : (old mid new : Graph) (before midst after : List Branch) → TakesOff old mid before midst
    → TakesOff mid new midst after → TakesOff old new before after
takes-both old mid new before midst after t u = record {
  counted = u.counted;
  bridges = u.bridges ∙ t.bridges;
  more = t.more ++ u.more;
  added = u.added ∙ ap (λ (xs : List Branch). xs ++ u.more) t.added ∙ append_assoc before t.more u.more;
  taken = taken-both old.links.items t.more mid.links.items u.more new.links.items t.taken u.taken;
}

-- removing a branch gives no bridge exactly one remaining link, except perhaps the one above
pub step-clears : (xs new : List (Option Ends)) (b : Branch) → IsLast xs b → new ≡ slice_set xs b.link None → (x : ℕ)
    → (x ≢ b.bridge → degree xs x ≢ 1) → x ≢ b.above → degree new x ≢ 1
step-clears xs new b l e x h n one =
    elim (x == b.bridge) as (λ t. (x == b.bridge) ≡ t → ⊥) [
      | true ↦ λ t.
          let i : x ≡ b.bridge = eqb-true x b.bridge t in
          let d : degree xs x ≡ 1 = ap (degree xs) i ∙ l.last in
          let s : at b.bridge x 1 ≡ 1 = ap (λ y. at b.bridge y 1) i ∙ at-same b.bridge 1 in
          omega (arith, d, s, p, q, r, one)
      | false ↦ λ t.
          let ne : x ≢ b.bridge = grind (arith, t) in
          let s = at-other b.bridge x 1 (λ i. ne (sym i)) in
          let u = at-other b.above x 1 (λ i. n (sym i)) in
          h ne (omega (arith, s, u, p, q, r, one))
    ] refl
  where
    p : degree (slice_set xs b.link None) x + share (Some l.link.ends) x 1 ≡ degree xs x
    p = degree-off xs b.link (Some l.link.ends) x l.link.there

    q : share (Some l.link.ends) x 1 ≡ at b.bridge x 1 + at b.above x 1
    q = joins-share l.link.ends b.bridge b.above x 1 l.link.joins

    r : degree new x ≡ degree (slice_set xs b.link None) x
    r = ap (λ ys. degree ys x) e
