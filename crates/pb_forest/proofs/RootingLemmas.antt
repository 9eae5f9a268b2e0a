-- Parents and depths are set from the last removed branch to the first, for `rooted_by`.
use Rattle.std.proofs.Common.{◌≡◌, ◌≢◌, ℕ, suc, ◌+◌, ◌<◌, ◌≤◌, ◌==◌, true, false, cond, Some, None, Option, List, []}
use Rattle.std.proofs.Common.{◌∷◌, ◌++◌, slice_get, slice_set, length, replicate, refl, sym, ◌∙◌, ap, subst, arith}
use Rattle.std.proofs.Common.{append_assoc, length-append}
use Rattle.std.proofs.Math.ListN.{length-set}
use Rattle.std.proofs.lemmas.Bool.{eqb-true}
use Rattle.std.proofs.lemmas.List.{length-replicate, get_or-replicate}
use Rattle.std.proofs.lemmas.Option.{slice_get-get_or}
use Rattle.std.specs.List.{AllByRecursion}
use Rattle.pb_frame.proofs.Lists.{Some-injective, All-midst}
use Rattle.pb_frame.proofs.Things.{put_there, put_elsewhere}
use Rattle.pb_forest.specs.Rooting.{way_up, depth_below, IsNear, IsRootedBy}
use Rattle.pb_forest.specs.declared.graph.Branch.{Branch}
use Rattle.pb_lan.specs.declared.shape.Rooted.{Rooted}

-- a depth is at most the number of branches
pub depth-few : (bs : List Branch) (x : ℕ) → depth_below bs x ≤ length bs
depth-few [] x = omega arith
depth-few (b ∷ bs) x =
    let r = depth-few bs x in
    let s = depth-few bs b.above in
    elim (b.bridge == x) as (λ t. cond t (depth_below bs b.above + 1) (depth_below bs x) ≤ suc (length bs))
    [ true ↦ omega (arith, s) | false ↦ omega (arith, r) ]

-- the entries are those of the later branches
pub record RootsTo (bridges : ℕ) (all rest : List Branch) (up : List (Option ℕ)) (depth : List ℕ) : Type 0 where
  pub later : List Branch
  pub split : rest ++ later ≡ all
  pub ups : length up ≡ bridges
  pub depths : length depth ≡ bridges
  pub up_at : (x : ℕ) → x < bridges → slice_get up x ≡ Some (way_up later x)
  pub depth_at : (x : ℕ) → x < bridges → slice_get depth x ≡ Some (depth_below later x)

-- without branches, each bridge is a root
get-replicate : {X : Type 0} (n x : ℕ) (v : X) → x < n → slice_get (replicate n v) x ≡ Some v
get-replicate n x v h = slice_get-get_or (replicate n v) x v (let e = length-replicate n v in omega (arith, e, h))
    ∙ ap (λ y. Some y) (get_or-replicate n x v v h)

pub roots-none : (n : ℕ) (all : List Branch) (up : List (Option ℕ)) (depth : List ℕ) → up ≡ replicate n None
    → depth ≡ replicate n 0 → RootsTo n all all up depth
roots-none n all up depth u d = record {
  later = [];
  split = nil all;
  ups = ap length u ∙ length-replicate n None;
  depths = ap length d ∙ length-replicate n 0;
  up_at = λ x h. ap (λ xs. slice_get xs x) u ∙ get-replicate n x None h;
  depth_at = λ x h. ap (λ xs. slice_get xs x) d ∙ get-replicate n x 0 h;
}
  where
    nil : (bs : List Branch) → bs ++ [] ≡ bs
    nil [] = refl
    nil (b ∷ bs) = ap (λ (cs : List Branch). b ∷ cs) (nil bs)

-- the next branch
pub split-next : (all rest new later : List Branch) (b : Branch) → rest ++ later ≡ all → rest ≡ new ++ b ∷ []
    → new ++ b ∷ later ≡ all
split-next all rest new later b s e = sym (append_assoc new (b ∷ []) later)
    ∙ ap (λ (xs : List Branch). xs ++ later) (sym e) ∙ s

pub near-next : (n : ℕ) (all rest new : List Branch) (up : List (Option ℕ)) (depth : List ℕ) (b : Branch)
    → RootsTo n all rest up depth → rest ≡ new ++ b ∷ [] → AllByRecursion (IsNear n) all → IsNear n b
near-next n all rest new up depth b r e near = All-midst (IsNear n) new b r.later
    (subst (AllByRecursion (IsNear n)) (sym (split-next all rest new r.later b r.split e)) near)

-- the depth of the next branch's bridge
pub depth-next : (n : ℕ) (all rest new : List Branch) (up : List (Option ℕ)) (depth : List ℕ) (b : Branch) (d : ℕ)
    → (r : RootsTo n all rest up depth) → rest ≡ new ++ b ∷ [] → IsNear n b → slice_get depth b.above ≡ Some d
    → (d ≡ depth_below r.later b.above) × (d + 1 ≤ length all)
depth-next n all rest new up depth b d r e near h =
    let is : d ≡ depth_below r.later b.above = Some-injective (sym h ∙ r.depth_at b.above near.above) in
    let few = depth-few r.later b.above in
    let l : length (new ++ b ∷ r.later) ≡ length all = ap length (split-next all rest new r.later b r.split e) in
    let k = length-append new (b ∷ r.later) in
    (is, omega (arith, is, few, l, k))

-- one more branch, for the loop of `rooted_by`
pub roots-more : (n : ℕ) (all rest new : List Branch) (up : List (Option ℕ)) (depth : List ℕ) (b : Branch) (d : ℕ)
    → (r : RootsTo n all rest up depth) → rest ≡ new ++ b ∷ [] → IsNear n b → d ≡ depth_below r.later b.above
    → RootsTo n all new (slice_set up b.bridge (Some (b.link + 1))) (slice_set depth b.bridge (d + 1))
roots-more n all rest new up depth b d r e near is = record {
  later = b ∷ r.later;
  split = split-next all rest new r.later b r.split e;
  ups = length-set up b.bridge (Some (b.link + 1)) ∙ r.ups;
  depths = length-set depth b.bridge (d + 1) ∙ r.depths;
  up_at = λ x h. at up (Some (b.link + 1)) (way_up r.later x) x r.ups (r.up_at x h);
  depth_at = λ x h. at depth (d + 1) (depth_below r.later x) x r.depths (r.depth_at x h)
      ∙ ap (λ k. Some (cond (b.bridge == x) (k + 1) (depth_below r.later x))) is;
}
  where
    at : {X : Type 0} (xs : List X) (v w : X) (x : ℕ) → length xs ≡ n → slice_get xs x ≡ Some w
        → slice_get (slice_set xs b.bridge v) x ≡ Some (cond (b.bridge == x) v w)
    at xs v w x l h =
        elim (b.bridge == x) as (λ t. (b.bridge == x) ≡ t → slice_get (slice_set xs b.bridge v) x ≡ Some (cond t v w)) [
          | true ↦ λ t.
              let i = eqb-true b.bridge x t in
              let k = near.bridge in
              ap (slice_get (slice_set xs b.bridge v)) (sym i) ∙ put_there xs b.bridge v (omega (arith, l, k))
          | false ↦ λ t. let ne : x ≢ b.bridge = grind (arith, t) in put_elsewhere xs b.bridge x v ne ∙ h
        ] refl

-- all branches, at the end of `rooted_by`
pub roots-all : (n : ℕ) (all : List Branch) (up : List (Option ℕ)) (depth : List ℕ) (rooted : Rooted)
    → RootsTo n all [] up depth → rooted.up ≡ up → rooted.depth ≡ depth → IsRootedBy n all rooted
roots-all n all up depth rooted r u d = record {
  ups = ap length u ∙ r.ups;
  depths = ap length d ∙ r.depths;
  up = λ x h. ap (λ xs. slice_get xs x) u ∙ r.up_at x h ∙ ap (λ bs. Some (way_up bs x)) r.split;
  depth = λ x h. ap (λ xs. slice_get xs x) d ∙ r.depth_at x h ∙ ap (λ bs. Some (depth_below bs x)) r.split;
}
