-- Names and costs in the lines of a tree.
use Rattle.std.specs.Prelude.{ℕ, List, [], unwrap_or, ◌==◌, if◌then◌else◌}
use Rattle.std.specs.Fmt.{decimal}
use Rattle.std.specs.Option.{option_map}
use Rattle.pb_frame.specs.Lists.{first}
use Rattle.pb_lan.specs.Ports.{is_end_at}
use Rattle.pb_lan.specs.declared.plan.Plan.{Plan}
use Rattle.pb_lan.specs.declared.plan.LinkPlan.{LinkPlan}
use Rattle.pb_names.specs.Places.{link_at}
use Rattle.pb_rstp.specs.Profile.{plan_id}

-- the name of the bridge with an identifier (IEEE 802.1D-2004 clause 9.2.5), or the identifier if no bridge has it
abbrev pub id_name : Plan → ℕ → List ℕ
id_name plan id = unwrap_or (option_map (λ b. b.name) (first (λ b. plan_id b == id) plan.bridges)) (decimal id)

-- the path cost of the end of a link that is a bridge's port
abbrev pub cost_at : ℕ → ℕ → LinkPlan → ℕ
cost_at bridge port link = if is_end_at bridge port link.a then link.a.cost else link.b.cost

-- the name of the link at a bridge's port
abbrev pub link_name_at : Plan → ℕ → ℕ → List ℕ
link_name_at plan bridge port = unwrap_or (option_map (λ l. l.name) (link_at plan bridge port)) []

-- the path cost of a bridge's port
abbrev pub path_cost_at : Plan → ℕ → ℕ → ℕ
path_cost_at plan bridge port = unwrap_or (option_map (cost_at bridge port) (link_at plan bridge port)) 0
