-- The order of vectors under paths, and the best of a list.
use Rattle.std.proofs.Common.{◌≡◌, ℕ, ◌+◌, ◌≤◌, List, [], ◌∷◌, refl, ap, ◌∙◌, Bool, true, false, nat_lt, ◌==◌, ◌&&◌}
use Rattle.std.proofs.Common.{◌||◌, if◌then◌else◌, arith}
use Rattle.std.specs.List.{AllByRecursion}
use Rattle.std.proofs.Math.Bool.{and-false}
use Rattle.std.proofs.lemmas.Bool.{eqb-true, ltb-false, le-ltb, or_parts, or_from}
use Rattle.pb_lan.specs.declared.plan.Plan.{Plan}
use Rattle.pb_lan.specs.declared.plan.End.{End}
use Rattle.pb_rstp.specs.Roles.{best}
use Rattle.pb_rstp.specs.Vectors.{is_better}
use Rattle.pb_rstp.specs.declared.vector.Vector.{Vector}
use Rattle.pb_rstp.proofs.OrderLaws.{before-irrefl, better-irrefl, better-asym, not_better-trans}
use Rattle.pb_rstp.specs.Profile.{id_in}
use Rattle.pb_spanning_tree.specs.TreeOf.{end_id, path_over, vector_in}

-- no vector of a list is better
abbrev pub NoneBetter : Vector → List Vector → Type 0
NoneBetter x vs = AllByRecursion (λ v. is_better v x ≡ false) vs

-- The best of a list.

-- the better of two vectors is at least as good as the first
picked-first : (v w : Vector) → is_better v (if is_better w v then w else v) ≡ false
picked-first v w = by_test (is_better w v) refl
  where
    by_test : (t : Bool) → is_better w v ≡ t → is_better v (if t then w else v) ≡ false
    by_test true e = better-asym w v e
    by_test false e = better-irrefl v

-- and as the second
picked-second : (v w : Vector) → is_better w (if is_better w v then w else v) ≡ false
picked-second v w = by_test (is_better w v) refl
  where
    by_test : (t : Bool) → is_better w v ≡ t → is_better w (if t then w else v) ≡ false
    by_test true e = better-irrefl w
    by_test false e = e

-- what is at least as good as both is at least as good as the better of two
picked-below : (x v w : Vector) (t : Bool) → is_better v x ≡ false → is_better w x ≡ false
    → is_better (if t then w else v) x ≡ false
picked-below x v w true a b = b
picked-below x v w false a b = a

-- the best is at least as good as the first
pub best-first : (v : Vector) (ws : List Vector) → is_better v (best v ws) ≡ false
best-first v [] = better-irrefl v
best-first v (w ∷ ws) =
    let p : Vector = if is_better w v then w else v in
    not_better-trans v p (best p ws) (picked-first v w) (best-first p ws)

-- and as each vector of the list
pub best-rest : (v : Vector) (ws : List Vector) → NoneBetter (best v ws) ws
best-rest v [] = tt
best-rest v (w ∷ ws) =
    let p : Vector = if is_better w v then w else v in
    (not_better-trans w p (best p ws) (picked-second v w) (best-first p ws), best-rest p ws)

-- what is at least as good as all is at least as good as the best
pub best-below : (x v : Vector) (ws : List Vector) → is_better v x ≡ false → NoneBetter x ws
    → is_better (best v ws) x ≡ false
best-below x v [] a h = a
best-below x v (w ∷ ws) a h = best-below x (if is_better w v then w else v) ws
    (picked-below x v w (is_better w v) a h.0) h.1

-- Paths.

-- a test of heads and tails that fails, fails also if the tails' test fails whenever it did for equal heads
tail-fails : (m n : ℕ) (b c : Bool) → (nat_lt m n || (m == n && b)) ≡ false → (m ≡ n → b ≡ false → c ≡ false)
    → (nat_lt m n || (m == n && c)) ≡ false
tail-fails m n b c h f =
    let o = or_parts (nat_lt m n) (m == n && b) h in
    or_from (nat_lt m n) (m == n && c) o.0 (by_test (m == n) refl o.1)
  where
    by_test : (t : Bool) → (m == n) ≡ t → (t && b) ≡ false → (t && c) ≡ false
    by_test true e g = f (eqb-true m n e) g
    by_test false e g = refl

-- a lesser cost stays the lesser one when both are raised by the same
raised-below : (m n c : ℕ) (b d : Bool) → d ≡ false → (nat_lt m n || (m == n && b)) ≡ false
    → (nat_lt (m + c) (n + c) || (m + c == n + c && d)) ≡ false
raised-below m n c b d e h =
    let o = or_parts (nat_lt m n) (m == n && b) h in
    let below : n ≤ m = ltb-false m n o.0 in
    let still : n + c ≤ m + c = omega arith in
    or_from (nat_lt (m + c) (n + c)) (m + c == n + c && d)
    (le-ltb (m + c) (n + c) still)
    (ap (λ t. m + c == n + c && t) e ∙ and-false (m + c == n + c))

-- a vector with a root, a cost, and the same rest as others
abbrev raised_from : Vector → ℕ → ℕ → ℕ → ℕ → Vector
raised_from v c bridge port receiving =
    record { root = v.root; cost = v.cost + c; bridge = bridge; port = port; receiving = receiving }

-- a better vector gives no worse path
path-below : (v w : Vector) (c bridge port receiving : ℕ) → is_better w v ≡ false
    → is_better (raised_from w c bridge port receiving) (raised_from v c bridge port receiving) ≡ false
path-below v w c bridge port receiving h =
    tail-fails w.root v.root _ _ h
    (λ same rest. raised-below w.cost v.cost c _ _ (before-irrefl (bridge ∷ port ∷ receiving ∷ [])) rest)

-- the same of the path over a link
pub path_over-below : (plan : Plan) (vs ws : List Vector) (near far : End)
    → is_better (vector_in ws far.bridge) (vector_in vs far.bridge) ≡ false
    → is_better (path_over plan ws near far) (path_over plan vs near far) ≡ false
path_over-below plan vs ws near far h =
    let v : Vector = vector_in vs far.bridge in
    let w : Vector = vector_in ws far.bridge in
    path-below v w near.cost (id_in plan far.bridge) (end_id far) (end_id near) h
