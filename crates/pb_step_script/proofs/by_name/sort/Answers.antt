use Rattle.std.proofs.Common.{◌≡◌, ◌+◌, ◌<◌, ℕ, List, false, length, get_or, map, Bor, refl, sym, ap, subst, is_lt}
use Rattle.std.proofs.Common.{nat_cmp}
use Rattle.std.proofs.Common.{IsPermutation}
use Rattle.std.proofs.Math.ListN.{get_or-map}
use Rattle.std.proofs.lemmas.List.{length-map}
use Rattle.std.proofs.lemmas.List.Sorted.{IsPermutation-map}
use Rattle.std.specs.Cmp.Lexicographic.{slice_cmp}
use Rattle.std.specs.List.Sorted.{IsSortedByKey}
use Rattle.std.specs.Ordering.{ordering_then}
use Rattle.std.specs.declared.cmp.Ordering.{Ordering}
use Rattle.std.specs.declared.cmp.Ordering.TheVariants.{Less, Equal, Greater}
use Rattle.pb_step_script.proofs.by_name.sort.Goals as goal

-- the first comparison decides if it is not equal
first_decides : (a b : Ordering) → is_lt (ordering_then a b) ≡ false → is_lt a ≡ false
first_decides Less b e = e
first_decides Equal b e = refl
first_decides Greater b e = refl

-- a name and its number, as contracts see them
abbrev seen : Bor (List ℕ) × ℕ → List ℕ × ℕ
seen n = (n.0.now, n.1)

-- the sorted names are in order
in_order : (c : goal.After-sort_unstable) → IsSortedByKey {X = List ℕ × ℕ} (λ n. n.0) (slice_cmp nat_cmp)
    (map seen c.sort_unstable.new.self.items)
in_order c = λ k d low high.
    let things = c.sort_unstable.new.self.items in
    let e : Bor (List ℕ) × ℕ = (record { ref_ptr = (0, 0); now = d.0 }, d.1) in
    let within : k + 1 < length things = subst (λ n. k + 1 < n) (length-map things seen) high in
    let all = first_decides _ _ (c.sort_unstable.ensures.sorted k e low within) in
    let next = ap (λ p. p.0) (get_or-map seen things (k + 1) e) in
    let here = ap (λ p. p.0) (get_or-map seen things k e) in
    subst (λ y. is_lt (slice_cmp nat_cmp (get_or (map seen things) (k + 1) d).0 y) ≡ false) (sym here)
    (subst (λ x. is_lt (slice_cmp nat_cmp x (get_or things k e).0.now) ≡ false) (sym next) all)

pub returns : goal.returns
returns c = λ names numbered. record {
  same = subst (λ xs. IsPermutation xs (map seen c.sort_unstable.new.self.items)) numbered
      (IsPermutation-map seen c.args.things.now.items c.sort_unstable.new.self.items
      c.sort_unstable.ensures.permutation);
  by_name = in_order c;
}
