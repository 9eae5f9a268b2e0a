-- The customer ports that a service has in both plans, by name.
use Rattle.std.specs.Prelude.{Bool, List, [], ◌∷◌, Option, Some, None, flat_map, ◌==◌, ◌&&◌, not}
use Rattle.std.specs.List.{list_any}
use Rattle.pb_frame.specs.Lists.{first}
use Rattle.pb_lan.specs.declared.plan.Plan.{Plan}
use Rattle.pb_names.specs.Names.{port_name}
use Rattle.pb_names.specs.Numbers.{port_named}
use Rattle.pb_cmd_survive.specs.declared.sites.Site.{Site}
use Rattle.pb_cmd_diff.specs.declared.member.Member.{Member}

-- the port of the other plan's service that has the name of this one
abbrev pub site_in : Plan → Plan → List Site → Site → Option Site
site_in old new news s = first (λ t. t.port == port_named new (port_name old s.port)) news

-- a port with its groups in both plans, if both have it
abbrev pub member_by : Site → Option Site → List Member
member_by s None = []
member_by s (Some t) = record { port = s.port; old = s.group; new = t.group } ∷ []

-- the ports that the service has in both plans
abbrev pub members : Plan → Plan → List Site → List Site → List Member
members old new olds news = flat_map (λ s. member_by s (site_in old new news s)) olds

-- the same with the plans exchanged
abbrev pub swapped : Member → Member
swapped m = record { port = m.port; old = m.new; new = m.old }

-- two ports reach each other in OLD, and not in NEW
abbrev pub is_disconnected : Member → Member → Bool
is_disconnected m n = m.old == n.old && not (m.new == n.new)

-- some port is disconnected from this one
abbrev pub is_torn : List Member → Member → Bool
is_torn ms m = list_any (is_disconnected m) ms

-- some two ports are disconnected
abbrev pub are_disconnected : List Member → Bool
are_disconnected ms = list_any (is_torn ms) ms

-- two ports reach each other in NEW, and not in OLD
abbrev pub is_joined : Member → Member → Bool
is_joined m n = m.new == n.new && not (m.old == n.old)

-- some port is joined with this one
abbrev pub is_bound : List Member → Member → Bool
is_bound ms m = list_any (is_joined m) ms

-- some two ports are joined
abbrev pub are_joined : List Member → Bool
are_joined ms = list_any (is_bound ms) ms
