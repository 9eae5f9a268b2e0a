-- Names in a trace besides those of the parts of a plan.
use Rattle.std.specs.Prelude.{ℕ, List, [], Some, None, unwrap_or, codes, ◌==◌}
use Rattle.std.specs.Option.{option_map}
use Rattle.std.specs.declared.option.Option.{Option}
use Rattle.pb_frame.specs.Lists.{first}
use Rattle.pb_lan.specs.declared.plan.Plan.{Plan}
use Rattle.pb_lan.specs.declared.plan.CustomerPlan.{CustomerPlan}
use Rattle.pb_lan.specs.declared.plan.LinkPlan.{LinkPlan}
use Rattle.pb_names.specs.Places.{customer_at, link_at}

-- the name of the service with a VID
abbrev pub name_of_vid : Plan → ℕ → List ℕ
name_of_vid plan vid = unwrap_or (option_map (λ s. s.name) (first (λ s. s.vid == vid) plan.services)) (codes "no service")

-- the name of the customer port or the link at a port
abbrev pub neighbour_of : Option CustomerPlan → Option LinkPlan → List ℕ
neighbour_of (Some customer) link = customer.name
neighbour_of None link = unwrap_or (option_map (λ l. l.name) link) []

-- the name of the customer port or the link at a bridge's port
abbrev pub neighbour : Plan → ℕ → ℕ → List ℕ
neighbour plan bridge port = neighbour_of (customer_at plan bridge port) (link_at plan bridge port)
