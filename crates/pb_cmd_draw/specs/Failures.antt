-- The bridges and the ends of links that names disable.
use Rattle.std.specs.Prelude.{ℕ, Bool, ◌||◌, List, map, string_bytes}
use Rattle.std.specs.Global.{Global}
use Rattle.std.specs.List.{list_any}
use Rattle.std.specs.declared.string.String.{String}
use Rattle.pb_converge.specs.Falls.{fails, end_name}
use Rattle.pb_draw_layout.specs.declared.facts.DownEnds.{DownEnds}
use Rattle.pb_draw_layout.specs.declared.facts.Failures.{Failures}
use Rattle.pb_frame.specs.Admission.{same}
use Rattle.pb_lan.specs.declared.plan.Plan.{Plan}
use Rattle.pb_lan.specs.declared.plan.BridgePlan.{BridgePlan}
use Rattle.pb_lan.specs.declared.plan.End.{End}
use Rattle.pb_lan.specs.declared.plan.LinkPlan.{LinkPlan}

-- one of the names is that of the bridge
abbrev pub is_bridge_down : List (String Global) → BridgePlan → Bool
is_bridge_down names b = list_any (λ w. same (string_bytes w) b.name) names

-- the name disables the end of the link: it is that of the link, of a bridge at it, or BRIDGE:PORT of the end
abbrev pub disables_end : Plan → List ℕ → LinkPlan → End → Bool
disables_end plan name link e = fails plan name link || same name (end_name plan e)

-- one of the names does
abbrev pub is_end_down : Plan → List (String Global) → LinkPlan → End → Bool
is_end_down plan names link e = list_any (λ w. disables_end plan (string_bytes w) link e) names

-- the disabled ends of a link
abbrev pub down_ends : Plan → List (String Global) → LinkPlan → DownEnds
down_ends plan names link = record { a = is_end_down plan names link link.a; b = is_end_down plan names link link.b }

-- all of the plan
abbrev pub failures_of : Plan → List (String Global) → Failures
failures_of plan names = record { bridges = map (is_bridge_down names) plan.bridges; links = map (down_ends plan names) plan.links }
