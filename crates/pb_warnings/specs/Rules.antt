-- When a warning is due.
use Rattle.std.specs.Prelude.{◌≡◌, ◌≢◌, ℕ, ◌<◌, Bool, false, List, length, Some, nat_le, count_by, ◌==◌}
use Rattle.std.specs.List.{list_any, list_all}
use Rattle.pb_lan.specs.Events.{number_of}
use Rattle.pb_lan.specs.Numbering.{numbered}
use Rattle.pb_lan.specs.Plans.{IsNumber}
use Rattle.pb_lan.specs.declared.limits.Limits.{Limits}
use Rattle.pb_lan.specs.declared.plan.Plan.{Plan}
use Rattle.pb_lan.specs.declared.plan.BridgePlan.{BridgePlan}
use Rattle.pb_lan.specs.declared.plan.LinkPlan.{LinkPlan}
use Rattle.pb_lan.specs.declared.plan.CustomerPlan.{CustomerPlan}
use Rattle.pb_lan.specs.declared.plan.Spanning.TheVariants.{Rstp}
use Rattle.pb_rstp.specs.Profile.{plan_id}
use Rattle.pb_warnings.specs.Links.{is_member, passes, touches}
use Rattle.pb_joins.specs.Joins.{Leads, AreJoined}
use Rattle.pb_warnings.specs.declared.links.Links.TheVariants.{All, Service}
use Rattle.pb_warnings.specs.declared.warning.Warning.{Warning}
use Rattle.pb_warnings.specs.declared.warning.Warning.TheVariants.{NeverTicks, Unlinked, TooFar, Unequal, NoPort, OnePort, Split}

-- the plan has a spanning tree, and neither clock
pub record NeverTick (plan : Plan) (limits : Limits) : Type 0 where
  pub rstp : plan.spanning ≡ Rstp
  pub no_ms : limits.tick_ms ≡ 0
  pub no_every : limits.tick_every ≡ 0

-- no link ends at the bridge, and the plan has more than one bridge
pub record IsUnlinked (plan : Plan) (bridge : ℕ) : Type 0 where
  pub others : 1 < length plan.bridges
  pub none : list_any (touches bridge) plan.links ≡ false

-- the bridge has the least identifier of all: priority, then address
abbrev pub is_least : Plan → BridgePlan → Bool
is_least plan b = list_all (λ other. nat_le (plan_id b) (plan_id other)) plan.bridges

-- the number of the root bridge of the spanning tree, or 0 if the plan has no bridges
abbrev pub root_of : Plan → ℕ
root_of plan = number_of (is_least plan) 1 plan.bridges

-- links join the bridge and the root of the spanning tree, and each path between them has more than 20 links (a bridge
-- that no path joins to the root is not meant)
pub record IsTooFar (plan : Plan) (bridge : ℕ) : Type 0 where
  pub rstp : plan.spanning ≡ Rstp
  pub joined : AreJoined plan (passes All) bridge (root_of plan)
  pub far : (numbers : List ℕ) → Leads plan (passes All) bridge numbers (root_of plan) → 20 < length numbers

-- one end of the link is a member of some of so many services, and the other is not
abbrev pub IsUnequal : ℕ → LinkPlan → Type 0
IsUnequal services link = (service : ℕ) × IsNumber service services × (is_member service link.a ≢ is_member service link.b)

-- the link with this number has such ends
abbrev pub HasUnequalEnds : Plan → ℕ → Type 0
HasUnequalEnds plan number = (link : LinkPlan) × (numbered plan.links number ≡ Some link) × IsUnequal (length plan.services) link

-- the number of customer ports of the service
abbrev pub port_count : Plan → ℕ → ℕ
port_count plan service = count_by (λ c. c.service == service) plan.customers

-- two customer ports of the service are at bridges that no links of its members join
pub record IsSplit (plan : Plan) (service : ℕ) : Type 0 where
  pub p : ℕ
  pub q : ℕ
  pub here : CustomerPlan
  pub there : CustomerPlan
  pub planned_here : numbered plan.customers p ≡ Some here
  pub planned_there : numbered plan.customers q ≡ Some there
  pub of_here : here.service ≡ service
  pub of_there : there.service ≡ service
  pub apart : AreJoined plan (passes (Service service)) here.bridge there.bridge → ⊥

-- the warning is due
abbrev pub Holds : Plan → Limits → Warning → Type 0
Holds plan limits NeverTicks = NeverTick plan limits
Holds plan limits (Unlinked bridge) = IsUnlinked plan bridge
Holds plan limits (TooFar bridge) = IsTooFar plan bridge
Holds plan limits (Unequal link) = HasUnequalEnds plan link
Holds plan limits (NoPort service) = port_count plan service ≡ 0
Holds plan limits (OnePort service) = port_count plan service ≡ 1
Holds plan limits (Split service) = IsSplit plan service
