-- What is said of a network that is up.
use Rattle.std.proofs.Common.{◌≡◌, ℕ, List, subst}
use Rattle.std.specs.Global.{Global}
use Rattle.std.specs.declared.string.String.{String}
use Rattle.pb_lan.specs.declared.plan.Plan.{Plan}
use Rattle.pb_cmd_survive.specs.declared.standing.Patience.{Patience}
use Rattle.pb_cmd_survive.specs.declared.standing.Standing.{Standing}

-- what is said of its plan, of the names of what is down, and of its limits
pub moved : (s : Standing) (plan : Plan) (names : List (String Global)) (patience : Patience) → s.plan.now ≡ plan
    → s.names.now ≡ names → s.patience ≡ patience → (P : Plan → List (String Global) → ℕ → ℕ → Type 0)
    → P s.plan.now s.names.now s.patience.ticks s.patience.events → P plan names patience.ticks patience.events
moved s plan names patience planned named limited P h =
    subst (λ p. P p names patience.ticks patience.events) planned
    (subst (λ n. P s.plan.now n patience.ticks patience.events) named
    (subst (λ (l : Patience). P s.plan.now s.names.now l.ticks l.events) limited h))
