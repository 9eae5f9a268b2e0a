-- The counts of a graph stay right as links are added and removed, for the functions of `graph`.
use Rattle.std.proofs.Common.{◌≡◌, ◌≢◌, ◌⊎◌, inl, inr, ℕ, zero, suc, ◌+◌, ◌<◌, ◌≤◌, Some, None, Option, List, [], ◌∷◌}
use Rattle.std.proofs.Common.{◌++◌, slice_get, slice_set, slice_index, get_or, length, sym, ◌∙◌, ap, subst, arith}
use Rattle.std.proofs.lemmas.List.{length_push, get_or_read}
use Rattle.std.proofs.lemmas.Option.{get_or_from_slice_get}
use Rattle.std.proofs.Math.ListN.{length-set}
use Rattle.pb_frame.proofs.Lists.{Some-injective}
use Rattle.pb_forest.proofs.GraphLemmas.{share-most, share-times, joins-share, degree-append, sum-append, degree-most}
use Rattle.pb_forest.proofs.GraphLemmas.{sum-most, degree-off, sum-off, off-meets, only-link}
use Rattle.pb_forest.specs.Counting.{IsCounted, IsNext}
use Rattle.pb_forest.specs.Graphs.{share, degree, index_sum, Joins, Meets, AreWithin, IsBetween, IsLast}
use Rattle.pb_forest.specs.declared.graph.Branch.{Branch}
use Rattle.pb_forest.specs.declared.graph.Ends.{Ends}
use Rattle.pb_forest.specs.declared.graph.Graph.{Graph}

-- a degree or a sum, with the share of one more link, fits in 32 bits
pub degree-fits : (g : Graph) → IsCounted g → (e : Option Ends) (x : ℕ)
    → slice_index g.degrees.items x + share e x 1 < 4294967296
degree-fits g c e x =
    let d = c.degrees x in
    let m = degree-most g.links.items x in
    let s = share-most e x in
    let f = c.few in
    omega (arith, d, m, s, f)

pub sum-fits : (g : Graph) → IsCounted g → (e : Option Ends) (x n : ℕ) → n ≤ 255
    → slice_index g.sums.items x + share e x n < 4294967296
sum-fits g c e x n h =
    let d = c.sums x in
    let f = c.few in
    let m = sum-most 0 255 g.links.items x (omega (arith, f)) in
    let k = degree-most g.links.items x in
    let s = share-times e x n 255 h in
    let t = share-most e x in
    omega (arith, d, m, k, s, t, f)

-- after a link is added, each link is an earlier one or the new one
push-there : (xs : List (Option Ends)) (e : Option Ends) (k : ℕ) (ends : Ends)
    → slice_get (xs ++ e ∷ []) k ≡ Some (Some ends) → (slice_get xs k ≡ Some (Some ends)) ⊎ (e ≡ Some ends)
push-there [] e zero ends h = inr (Some-injective h)
push-there [] e (suc k) ends h = cc
push-there (x ∷ xs) e zero ends h = inl h
push-there (x ∷ xs) e (suc k) ends h = push-there xs e k ends h

between : (n : ℕ) (e : Option Ends) (ends : Ends) (x y : ℕ) → IsBetween n e → e ≡ Some ends → Joins ends x y → x < n
between n None ends x y b h j = cc
between n (Some es) ends x y b h (inl j) = let i : es.a ≡ x = ap (λ z. z.a) (Some-injective h)
    ∙ j.0 in let l = b.0 in omega (arith, i, l)
between n (Some es) ends x y b h (inr j) = let i : es.b ≡ x = ap (λ z. z.b) (Some-injective h)
    ∙ j.0 in let l = b.1 in omega (arith, i, l)

within-push : (n : ℕ) (xs : List (Option Ends)) (e : Option Ends) → AreWithin n xs → IsBetween n e
    → AreWithin n (xs ++ e ∷ [])
within-push n xs e w b k x y m = by (push-there xs e k m.ends m.there)
  where
    by : (slice_get xs k ≡ Some (Some m.ends)) ⊎ (e ≡ Some m.ends) → x < n
    by (inl h) = w k x y (record { ends = m.ends; there = h; joins = m.joins })
    by (inr h) = between n e m.ends x y b h m.joins

pub counted-push : (old new : Graph) (e : Option Ends) → IsCounted old → length old.links.items < 255
    → IsBetween (length old.degrees.items) e
    → new.links.items ≡ old.links.items ++ e ∷ [] → length new.degrees.items ≡ length old.degrees.items
    → length new.sums.items ≡ length old.sums.items
    → ((x : ℕ) → slice_index new.degrees.items x ≡ slice_index old.degrees.items x + share e x 1)
    → ((x : ℕ) → slice_index new.sums.items x ≡ slice_index old.sums.items x + share e x (length old.links.items))
    → IsNext old new (old.links.items ++ e ∷ [])
counted-push old new e c room b l d s degrees sums = record { counted = counted; bridges = d; joined = l }
  where
    counted : IsCounted new
    counted = record {
      same = s ∙ c.same ∙ sym d;
      few = let p = length_push old.links.items e in let q = ap length l in omega (arith, p, q, room);
      within = subst (λ xs. AreWithin (length new.degrees.items) xs) (sym l)
          (subst (λ n. AreWithin n (old.links.items ++ e ∷ [])) (sym d)
          (within-push (length old.degrees.items) old.links.items e c.within b));
      degrees = λ x. degrees x ∙ ap (λ n. n + share e x 1) (c.degrees x)
          ∙ sym (ap (λ xs. degree xs x) l ∙ degree-append old.links.items e x);
      sums = λ x.
          let p = sums x in
          let q = c.sums x in
          let r : index_sum 0 new.links.items x ≡ index_sum 0 (old.links.items ++ e ∷ []) x =
          ap (λ xs. index_sum 0 xs x) l in
          let t = sum-append 0 old.links.items e x in
          let z : 0 + length old.links.items ≡ length old.links.items = omega arith in
          let u : share e x (0 + length old.links.items) ≡ share e x (length old.links.items) = ap (share e x) z in
          omega (arith, p, q, r, t, u);
    }

-- the counts that removing a branch subtracts are there
pub branch-degree : (g : Graph) → IsCounted g → (b : Branch) → IsLast g.links.items b → (ends : Ends)
    → ends.a ≡ b.bridge → ends.b ≡ b.above → (x : ℕ) → share (Some ends) x 1 ≤ slice_index g.degrees.items x
branch-degree g c b l ends h k x =
    let d = c.degrees x in
    let o = degree-off g.links.items b.link (Some l.link.ends) x l.link.there in
    let s = joins-share l.link.ends b.bridge b.above x 1 l.link.joins in
    let t = joins-share ends b.bridge b.above x 1 (inl (h, k)) in
    omega (arith, d, o, s, t)

pub branch-sum : (g : Graph) → IsCounted g → (b : Branch) → IsLast g.links.items b → (ends : Ends) → ends.a ≡ b.bridge
    → ends.b ≡ b.above → (x : ℕ) → share (Some ends) x b.link ≤ slice_index g.sums.items x
branch-sum g c b l ends h k x =
    let d = c.sums x in
    let o = sum-off 0 g.links.items b.link (Some l.link.ends) x l.link.there in
    let z : 0 + b.link ≡ b.link = omega arith in
    let u : share (Some l.link.ends) x (0 + b.link) ≡ share (Some l.link.ends) x b.link =
    ap (share (Some l.link.ends) x) z in
    let s = joins-share l.link.ends b.bridge b.above x b.link l.link.joins in
    let t = joins-share ends b.bridge b.above x b.link (inl (h, k)) in
    omega (arith, d, o, u, s, t)

-- the counts are right after a branch is removed
pub counted-off : (old new : Graph) (b : Branch) (ends : Ends) → ends.a ≡ b.bridge → ends.b ≡ b.above → IsCounted old
    → IsLast old.links.items b
    → new.links.items ≡ slice_set old.links.items b.link None → length new.degrees.items ≡ length old.degrees.items
    → length new.sums.items ≡ length old.sums.items
    → ((x : ℕ) → slice_index new.degrees.items x + share (Some ends) x 1 ≡ slice_index old.degrees.items x)
    → ((x : ℕ) → slice_index new.sums.items x + share (Some ends) x b.link ≡ slice_index old.sums.items x)
    → IsNext old new (slice_set old.links.items b.link None)
counted-off old new b ends h k c last l d s degrees sums = record { counted = counted; bridges = d; joined = l }
  where
    counted : IsCounted new
    counted = record {
      same = s ∙ c.same ∙ sym d;
      few = let p = length-set old.links.items b.link None in let q = ap length l in let f =
          c.few in omega (arith, p, q, f);
      within = λ j x y m.
          let n : Meets (slice_set old.links.items b.link None) j x y = subst (λ xs. Meets xs j x y) l m in
          let w = c.within j x y (off-meets old.links.items b.link j x y n) in
          omega (arith, w, d);
      degrees = λ x.
          let p = degrees x in
          let q = c.degrees x in
          let r : degree new.links.items x ≡ degree (slice_set old.links.items b.link None) x =
          ap (λ xs. degree xs x) l in
          let o = degree-off old.links.items b.link (Some last.link.ends) x last.link.there in
          let u = joins-share last.link.ends b.bridge b.above x 1 last.link.joins in
          let t = joins-share ends b.bridge b.above x 1 (inl (h, k)) in
          omega (arith, p, q, r, o, u, t);
      sums = λ x.
          let p = sums x in
          let q = c.sums x in
          let r : index_sum 0 new.links.items x ≡ index_sum 0 (slice_set old.links.items b.link None) x =
          ap (λ xs. index_sum 0 xs x) l in
          let o = sum-off 0 old.links.items b.link (Some last.link.ends) x last.link.there in
          let z : 0 + b.link ≡ b.link = omega arith in
          let v : share (Some last.link.ends) x (0 + b.link) ≡ share (Some last.link.ends) x b.link =
          ap (share (Some last.link.ends) x) z in
          let u = joins-share last.link.ends b.bridge b.above x b.link last.link.joins in
          let t = joins-share ends b.bridge b.above x b.link (inl (h, k)) in
          omega (arith, p, q, r, o, v, u, t);
    }

-- if one link remains at a bridge, its sum is that link's index
pub link-there : (g : Graph) → IsCounted g → (x d k : ℕ) → x < length g.degrees.items → d ≡ get_or g.degrees.items x d
    → d ≡ 1 → k ≡ get_or g.sums.items x k
    → (ends : Ends) × (y : ℕ) × (slice_get g.links.items k ≡ Some (Some ends)) × Joins ends x y
link-there g c x d k less read h sum =
    let one = only-link 0 g.links.items x (sym (c.degrees x) ∙ sym (get_or_read g.degrees.items x d less read 0) ∙ h) in
    let s = one.2 in
    let q = c.sums x in
    let r = get_or_read g.sums.items x k (let same = c.same in omega (arith, same, less)) sum 0 in
    let e : one.0 ≡ k = omega (arith, s, q, r) in
    (one.3.ends, one.1, subst (λ n. slice_get g.links.items n ≡ Some (Some one.3.ends)) e one.3.there, one.3.joins)

-- the link that is read at its index
pub link-read : (xs : List (Option Ends)) (k : ℕ) (ends : Ends) (r : Option Ends) → slice_get xs k ≡ Some (Some ends)
    → r ≡ get_or xs k r → r ≡ Some ends
link-read xs k ends r h read = read ∙ get_or_from_slice_get xs k (Some ends) r h

-- the end of a link that is not the first is the second
pub second-end : (ends : Ends) (x y : ℕ) → Joins ends x y → ends.a ≢ x → ends.b ≡ x
second-end ends x y (inl h) n = absurd (n h.0)
second-end ends x y (inr h) n = h.0

-- the bridge and its link are a branch that can be removed
pub is-last : (g : Graph) → IsCounted g → (x d k y : ℕ) → x < length g.degrees.items → d ≡ get_or g.degrees.items x d
    → d ≡ 1 → (ends : Ends) → slice_get g.links.items k ≡ Some (Some ends) → Joins ends x y
    → IsLast g.links.items (record { bridge = x; above = y; link = k })
is-last g c x d k y less read h ends there joins = record {
  link = record { ends = ends; there = there; joins = joins };
  last = sym (c.degrees x) ∙ sym (get_or_read g.degrees.items x d less read 0) ∙ h;
}
