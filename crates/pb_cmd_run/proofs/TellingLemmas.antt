-- Names of customer ports, and of the links of taps (used by `name_at`, `link_of` and `put_user`).
use Rattle.std.proofs.Common.{◌≡◌, ℕ, zero, suc, ◌+◌, ◌-◌, ◌<◌, ◌≤◌, List, [], ◌∷◌, ◌++◌}
use Rattle.std.proofs.Common.{codes, map, length, get_or, refl, ap, arith}
use Rattle.pb_lan.specs.declared.plan.CustomerPlan.{CustomerPlan}
use Rattle.pb_cmd_run.specs.Telling.{name_at, link_of, user_at}

-- a place of the plan has the name of its customer port
pub named : (customers : List CustomerPlan) (place : ℕ) (d : CustomerPlan) → place < length customers
    → name_at customers place ≡ (get_or customers place d).name
named [] place d within = absurd (omega arith)
named (customer ∷ customers) zero d within = refl
named (customer ∷ customers) (suc place) d within = named customers place d (omega arith)

-- a place after the last has no name
pub unnamed : (customers : List CustomerPlan) (place : ℕ) → length customers ≤ place → name_at customers place ≡ []
unnamed [] place past = refl
unnamed (customer ∷ customers) zero past = absurd (omega arith)
unnamed (customer ∷ customers) (suc place) past = unnamed customers place (omega arith)

-- a tap has the name of its link
pub linked : {X : Type 0} (f : X → List ℕ) (taps : List X) (index : ℕ) (d : X) → index < length taps
    → link_of (map f taps) index ≡ f (get_or taps index d)
linked f [] index d within = absurd (omega arith)
linked f (tap ∷ taps) zero d within = refl
linked f (tap ∷ taps) (suc index) d within = linked f taps index d (omega arith)

-- after the last tap there is no name
pub unlinked : {X : Type 0} (f : X → List ℕ) (taps : List X) (index : ℕ) → length taps ≤ index
    → link_of (map f taps) index ≡ []
unlinked f [] index past = refl
unlinked f (tap ∷ taps) zero past = absurd (omega arith)
unlinked f (tap ∷ taps) (suc index) past = unlinked f taps index (omega arith)

-- the user at a place of the plan is its customer port
pub user_port : (customers : List CustomerPlan) (taps : List (List ℕ)) (place : ℕ) (d : CustomerPlan)
    → place < length customers → user_at customers taps place ≡ codes "port " ++ (get_or customers place d).name
user_port [] taps place d within = absurd (omega arith)
user_port (customer ∷ customers) taps zero d within = refl
user_port (customer ∷ customers) taps (suc place) d within = user_port customers taps place d (omega arith)

-- the users after them are the taps
user_later : (customers : List CustomerPlan) (taps : List (List ℕ)) (place index : ℕ)
    → place ≡ length customers + index → user_at customers taps place ≡ codes "tap of link " ++ link_of taps index
user_later [] taps place index same =
    let e : place ≡ index = omega (arith, same) in
    ap (λ i. codes "tap of link " ++ link_of taps i) e
user_later (customer ∷ customers) taps zero index same = absurd (omega (arith, same))
user_later (customer ∷ customers) taps (suc place) index same =
    user_later customers taps place index (omega (arith, same))

pub user_tap : (customers : List CustomerPlan) (taps : List (List ℕ)) (place : ℕ) → length customers ≤ place
    → user_at customers taps place ≡ codes "tap of link " ++ link_of taps (place - length customers)
user_tap customers taps place past = user_later customers taps place (place - length customers) (omega arith)
