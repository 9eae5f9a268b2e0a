-- The customer port or the link at a local port of a bridge.
use Rattle.std.specs.Prelude.{ℕ, Bool, ◌||◌}
use Rattle.std.specs.declared.option.Option.{Option}
use Rattle.pb_frame.specs.Lists.{first}
use Rattle.pb_lan.specs.Ports.{is_customer_at, is_end_at}
use Rattle.pb_lan.specs.declared.plan.Plan.{Plan}
use Rattle.pb_lan.specs.declared.plan.CustomerPlan.{CustomerPlan}
use Rattle.pb_lan.specs.declared.plan.LinkPlan.{LinkPlan}

-- the customer port at this local port
abbrev pub customer_at : Plan → ℕ → ℕ → Option CustomerPlan
customer_at plan bridge port = first (is_customer_at bridge port) plan.customers

-- an end of the link is at this local port
abbrev pub has_end : ℕ → ℕ → LinkPlan → Bool
has_end bridge port link = is_end_at bridge port link.a || is_end_at bridge port link.b

-- the link with an end at this local port
abbrev pub link_at : Plan → ℕ → ℕ → Option LinkPlan
link_at plan bridge port = first (has_end bridge port) plan.links
