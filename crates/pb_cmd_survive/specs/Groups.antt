-- The customer ports of a service, in groups that reach each other.
use Rattle.std.specs.Prelude.{◌≡◌, ◌≤◌, ◌↔◌, ℕ, ◌+◌, Bool, false, List, [], ◌∷◌, Some, None, map, unwrap_or, ◌==◌, if◌then◌else◌, Contains}
use Rattle.std.specs.declared.option.Option.{Option}
use Rattle.pb_frame.specs.Lists.{first}
use Rattle.pb_joins.specs.Joins.{mark_at}
use Rattle.pb_lan.specs.Numbering.{numbered}
use Rattle.pb_lan.specs.declared.plan.Plan.{Plan}
use Rattle.pb_lan.specs.declared.plan.CustomerPlan.{CustomerPlan}
use Rattle.pb_lan.specs.declared.shape.Shape.{Shape}
use Rattle.pb_cmd_survive.specs.Reach.{CanReach}
use Rattle.pb_cmd_survive.specs.declared.sites.Site.{Site}

-- the numbers of the customer ports of a service, among those from a number on
abbrev pub ports_from : ℕ → ℕ → List CustomerPlan → List ℕ
ports_from service number [] = []
ports_from service number (c ∷ cs) =
    if c.service == service then number ∷ ports_from service (number + 1) cs else ports_from service (number + 1) cs

-- the numbers of all customer ports of a service
abbrev pub ports_of : Plan → ℕ → List ℕ
ports_of plan service = ports_from service 1 plan.customers

-- the bridge of a customer port is out
abbrev pub is_out_with : (ℕ → Bool) → Option CustomerPlan → Bool
is_out_with out None = false
is_out_with out (Some c) = out c.bridge

-- the same by the port's number in the plan
abbrev pub is_port_out : Plan → (ℕ → Bool) → ℕ → Bool
is_port_out plan out port = is_out_with out (numbered plan.customers port)

-- the customer ports of the service, in the plan's order; two have one group if and only if they reach each other, and
-- the number of a group is that of its first port; each says whether its bridge is out
pub record AreGroups (plan : Plan) (shape : Shape) (out : ℕ → Bool) (service vid : ℕ) (sites : List Site) : Type 0 where
  pub ports : map (λ s. s.port) sites ≡ ports_of plan service
  pub together : (s t : Site) → Contains sites s → Contains sites t → (s.group ≡ t.group) ↔ CanReach plan shape out vid s.port t.port
  pub named : (s : Site) → Contains sites s → Contains (ports_of plan service) s.group
  pub least : (s : Site) → Contains sites s → s.group ≤ s.port
  pub outs : (s : Site) → Contains sites s → s.is_out ≡ is_port_out plan out s.port

-- the number of a customer port for its group: its bridge's mark, or one of its own if the bridge is out
abbrev pub color_by : List ℕ → (ℕ → Bool) → ℕ → Option CustomerPlan → ℕ
color_by marks out port None = 0
color_by marks out port (Some c) = if out c.bridge then port + 32 else mark_at marks c.bridge

-- that number by the port's number in the plan
abbrev pub color_of : Plan → List ℕ → (ℕ → Bool) → ℕ → ℕ
color_of plan marks out port = color_by marks out port (numbered plan.customers port)

-- the first of the ports that has the same number for its group
abbrev pub lead_of : (ℕ → ℕ) → List ℕ → ℕ → ℕ
lead_of color ports port = unwrap_or (first (λ q. color q == color port) ports) 0

-- a port with its group, and whether its bridge is out
abbrev pub site_of : (ℕ → ℕ) → (ℕ → Bool) → List ℕ → ℕ → Site
site_of color out ports port = record { port = port; group = lead_of color ports port; is_out = out port }
