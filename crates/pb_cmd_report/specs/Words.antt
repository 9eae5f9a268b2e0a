-- Words in the cells of the tables.
use Rattle.std.specs.Prelude.{ℕ, List, [], ◌∷◌, ◌++◌, codes, flat_map, length, nat_lt, not, if◌then◌else◌}
use Rattle.std.specs.Fmt.{decimal}
use Rattle.pb_forest.specs.ServiceVids.{vid_numbered}
use Rattle.pb_lan.specs.Shapes.{is_active}
use Rattle.pb_lan.specs.declared.plan.Plan.{Plan}
use Rattle.pb_lan.specs.declared.plan.LinkPlan.{LinkPlan}
use Rattle.pb_lan.specs.declared.shape.Shape.{Shape}
use Rattle.pb_converge.specs.declared.convergence.Convergence.{Convergence}
use Rattle.pb_converge.specs.declared.convergence.Convergence.TheVariants.{Given, Converged, NotConverged}
use Rattle.pb_cmd_survive.specs.Verdicts.{is_split}
use Rattle.pb_cmd_survive.specs.declared.view.View.{View}

-- whether the bridges converged, and after how many ticks of each, which are seconds
abbrev pub convergence_words : Convergence → List ℕ
convergence_words Given = codes "states given"
convergence_words (Converged ticks) = decimal ticks ++ codes " s"
convergence_words (NotConverged ticks) = codes "not in " ++ decimal ticks ++ codes " s"

-- the health of a service
abbrev pub health_word : View → List ℕ
health_word v =
    if not v.is_forest then codes "forwarding loop" else if is_split v.sites then codes "disconnected"
    else if nat_lt (length v.sites) 2 then codes "fewer than two sites" else codes "healthy"

-- the name of a link that is active for a service, after a space
abbrev pub active_text : Plan → Shape → ℕ → LinkPlan → List ℕ
active_text plan shape vid link = if is_active plan shape vid link then 32 ∷ link.name else []

-- the links of a service's tree
abbrev pub tree_text : Plan → Shape → ℕ → List ℕ
tree_text plan shape service = flat_map (active_text plan shape (vid_numbered plan service)) plan.links
