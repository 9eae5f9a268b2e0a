-- What is said of two networks that are up.
use Rattle.std.proofs.Common.{◌≡◌, ℕ, List, subst}
use Rattle.pb_lan.specs.declared.plan.Plan.{Plan}
use Rattle.pb_cmd_survive.specs.declared.standing.Patience.{Patience}

-- what is said of their plans, of services, and of their limits
pub moved : (a b old new : Plan) (these services : List ℕ) (p limits : Patience) → a ≡ old → b ≡ new → these ≡ services
    → p ≡ limits → (P : Plan → Plan → List ℕ → ℕ → ℕ → Type 0) → P a b these p.ticks p.events
    → P old new services limits.ticks limits.events
moved a b old new these services p limits olds news same limited P h =
    subst (λ v. P v new services limits.ticks limits.events) olds
    (subst (λ v. P a v services limits.ticks limits.events) news
    (subst (λ ns. P a b ns limits.ticks limits.events) same
    (subst (λ (l : Patience). P a b these l.ticks l.events) limited h)))
