-- The part of a plan that a name means, and the ends of its links.
use Rattle.std.specs.Prelude.{ℕ, Bool, ◌||◌, ◌==◌, not, List, [], unwrap_or, if◌then◌else◌}
use Rattle.std.specs.List.{flat_map}
use Rattle.std.specs.Option.{option_map}
use Rattle.pb_lan.specs.Numbering.{numbered}
use Rattle.pb_lan.specs.Ports.{ends_of}
use Rattle.pb_lan.specs.declared.plan.Plan.{Plan}
use Rattle.pb_lan.specs.declared.plan.End.{End}
use Rattle.pb_lan.specs.declared.plan.LinkPlan.{LinkPlan}
use Rattle.pb_step_script.specs.Named.{bridge_named, link_named}
use Rattle.pb_control_socket.specs.declared.request.Part.{Part}
use Rattle.pb_control_socket.specs.declared.request.Part.TheVariants.{Link, Bridge}

-- the link or the bridge of this number; bridge 0, which is none, if both numbers name something
abbrev pub only_part : (link bridge : ℕ) → Part
only_part link bridge = if bridge == 0 then Link link else (if link == 0 then Bridge bridge else Bridge 0)

-- the link or the bridge of this name, with the number 0 if the plan has none, or has both
abbrev pub part_named : Plan → List ℕ → Part
part_named plan name = only_part (link_named plan name) (bridge_named plan name)

-- the part has a number that names something
abbrev pub is_part : Part → Bool
is_part (Link number) = not (number == 0)
is_part (Bridge number) = not (number == 0)

-- both ends of a link, if one of them is at this bridge
abbrev pub ends_at : ℕ → LinkPlan → List End
ends_at bridge link = if link.a.bridge == bridge || link.b.bridge == bridge then ends_of link else []

-- both ends of the link; or, in the order of the plan, both ends of each link of the bridge
abbrev pub ends_of_part : Plan → Part → List End
ends_of_part plan (Link number) = unwrap_or (option_map ends_of (numbered plan.links number)) []
ends_of_part plan (Bridge number) = flat_map (ends_at number) plan.links
