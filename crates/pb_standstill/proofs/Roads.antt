-- The links that pass a test, by the parents and depths of a rooted forest.
use Rattle.std.proofs.Common.{◌≡◌, ◌⊎◌, inl, inr, ℕ, zero, suc, ◌+◌, ◌≤◌, Some, None, Option, Bool, List, [], ◌∷◌}
use Rattle.std.proofs.Common.{sym, ◌∙◌, ap, subst, unwrap_or, arith, slice_get}
use Rattle.pb_frame.proofs.Lists.{Some-injective}
use Rattle.pb_lan.specs.Forests.{CrossesBy, HasEnds, ShowsBy}
use Rattle.pb_lan.specs.Numbering.{numbered}
use Rattle.pb_lan.specs.declared.plan.Plan.{Plan}
use Rattle.pb_lan.specs.declared.plan.End.{End}
use Rattle.pb_lan.specs.declared.plan.LinkPlan.{LinkPlan}
use Rattle.pb_lan.specs.declared.shape.Rooted.{Rooted}
use Rattle.pb_standstill.proofs.Descent.{Leads}

-- a bridge without an entry has no link up
abbrev pub flat : Option (Option ℕ) → Option ℕ
flat None = None
flat (Some o) = o

-- the link up from a bridge
abbrev pub up_of : Rooted → ℕ → Option ℕ
up_of rooted x = flat (numbered rooted.up x)

-- the depth of a bridge
abbrev pub depth_of : Rooted → ℕ → ℕ
depth_of rooted x = unwrap_or (numbered rooted.depth x) 0

-- the sum of numbers
abbrev pub total : List ℕ → ℕ
total [] = 0
total (x ∷ xs) = x + total xs

-- each number is at most the sum
pub within_total : (xs : List ℕ) (k : ℕ) → unwrap_or (numbered xs k) 0 ≤ total xs
within_total xs zero = omega arith
within_total xs (suc k) = at xs k
  where
    at : (xs : List ℕ) (k : ℕ) → unwrap_or (slice_get xs k) 0 ≤ total xs
    at [] k = omega arith
    at (x ∷ xs) zero = omega arith
    at (x ∷ xs) (suc k) = let h = at xs k in omega (arith, h)

-- an end of a link is one of two ends that the link has
pub one_of_two : (link : LinkPlan) (near far e f : End) → HasEnds link near far → HasEnds link e f
    → ((near ≡ e) × (far ≡ f)) ⊎ ((near ≡ f) × (far ≡ e))
one_of_two link near far e f (inl h) (inl g) = inl (sym h.0 ∙ g.0, sym h.1 ∙ g.1)
one_of_two link near far e f (inl h) (inr g) = inr (sym h.0 ∙ g.1, sym h.1 ∙ g.0)
one_of_two link near far e f (inr h) (inl g) = inr (sym h.0 ∙ g.1, sym h.1 ∙ g.0)
one_of_two link near far e f (inr h) (inr g) = inl (sym h.0 ∙ g.0, sym h.1 ∙ g.1)

-- a link that passes the test leads up from one of its bridges to the other
pub leads_of : (plan : Plan) (passes : LinkPlan → Bool) (rooted : Rooted) → ShowsBy plan passes rooted
    → (k : ℕ) (near far : End) → CrossesBy plan passes k near far
    → Leads (up_of rooted) (depth_of rooted) k near.bridge far.bridge
leads_of plan passes rooted shows k near far c =
    let one = shows.children k c.link c.numbered_so c.active in
    let way = shows.ways_up one.child k one.up in
    let same : way.crosses.link ≡ c.link = Some-injective (sym way.crosses.numbered_so ∙ c.numbered_so) in
    let u : up_of rooted one.child ≡ Some k = ap flat one.up in
    let above : depth_of rooted way.far.bridge ≡ way.depth = ap (λ o. unwrap_or o 0) way.depth_above in
    let here : depth_of rooted one.child ≡ way.depth + 1 = ap (λ o. unwrap_or o 0) way.depth_here in
    let ends : HasEnds c.link way.near way.far = subst (λ l. HasEnds l way.near way.far) same way.crosses.ends in
    by one.child way.near way.far way.depth u way.from above here
    (one_of_two c.link near far way.near way.far c.ends ends)
  where
    by : (child : ℕ) (e f : End) (d : ℕ) → up_of rooted child ≡ Some k → e.bridge ≡ child
        → depth_of rooted f.bridge ≡ d → depth_of rooted child ≡ d + 1
        → ((near ≡ e) × (far ≡ f)) ⊎ ((near ≡ f) × (far ≡ e))
        → Leads (up_of rooted) (depth_of rooted) k near.bridge far.bridge
    by child e f d u from above here (inl h) =
        let at : child ≡ near.bridge = sym from ∙ ap (λ x. x.bridge) (sym h.0) in
        let v : up_of rooted near.bridge ≡ Some k = subst (λ x. up_of rooted x ≡ Some k) at u in
        let a : depth_of rooted near.bridge ≡ d + 1 = subst (λ x. depth_of rooted x ≡ d + 1) at here in
        let b : depth_of rooted far.bridge ≡ d = ap (λ x. depth_of rooted x.bridge) h.1 ∙ above in
        inl (v, omega (arith, a, b))
    by child e f d u from above here (inr h) =
        let at : child ≡ far.bridge = sym from ∙ ap (λ x. x.bridge) (sym h.1) in
        let v : up_of rooted far.bridge ≡ Some k = subst (λ x. up_of rooted x ≡ Some k) at u in
        let a : depth_of rooted far.bridge ≡ d + 1 = subst (λ x. depth_of rooted x ≡ d + 1) at here in
        let b : depth_of rooted near.bridge ≡ d = ap (λ x. depth_of rooted x.bridge) h.0 ∙ above in
        inr (v, omega (arith, a, b))
