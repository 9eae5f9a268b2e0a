-- The links that a path may take.
use Rattle.std.specs.Prelude.{ℕ, Bool, true, ◌==◌, ◌&&◌, ◌||◌}
use Rattle.std.specs.Option.{option_map_or}
use Rattle.std.specs.List.{list_any}
use Rattle.pb_lan.specs.declared.plan.End.{End}
use Rattle.pb_lan.specs.declared.plan.LinkPlan.{LinkPlan}
use Rattle.pb_warnings.specs.declared.links.Links.{Links}
use Rattle.pb_warnings.specs.declared.links.Links.TheVariants.{All, Service}

-- the end of a link is a member of the service with this number: it lists the service, or lists none and is a member of
-- all
abbrev pub is_member : ℕ → End → Bool
is_member service e = option_map_or (list_any (λ s. s == service)) e.services true

-- the link is one of these: any link, or one whose two ends are members of the service
abbrev pub passes : Links → LinkPlan → Bool
passes All link = true
passes (Service service) link = is_member service link.a && is_member service link.b

-- an end of the link is at the bridge
abbrev pub touches : ℕ → LinkPlan → Bool
touches bridge link = link.a.bridge == bridge || link.b.bridge == bridge
