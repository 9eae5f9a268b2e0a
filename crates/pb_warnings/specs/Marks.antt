-- Customer ports by the marks of their bridges.
use Rattle.std.specs.Prelude.{ℕ, Bool, not, List, ◌==◌, ◌&&◌}
use Rattle.std.specs.List.{list_any}
use Rattle.pb_lan.specs.declared.plan.Plan.{Plan}
use Rattle.pb_joins.specs.Joins.{mark_at}

-- a customer port of the service has another mark than this one
abbrev pub is_apart : Plan → List ℕ → ℕ → ℕ → Bool
is_apart plan marks service mark = list_any (λ c. c.service == service && not (mark_at marks c.bridge == mark)) plan.customers

-- two customer ports of the service have different marks
abbrev pub are_apart : Plan → List ℕ → ℕ → Bool
are_apart plan marks service =
    list_any (λ c. c.service == service && is_apart plan marks service (mark_at marks c.bridge)) plan.customers
