-- Marks for the bridges that active links join.
use Rattle.std.proofs.Common.{◌≡◌, ℕ, List, [], ◌∷◌}
use Rattle.pb_joins.specs.Joins.{Leads, TellsJoined as TellsJoinedBy}
use Rattle.pb_lan.specs.Forests.{IsWalk}
use Rattle.pb_lan.specs.Shapes.{is_active}
use Rattle.pb_lan.specs.declared.plan.Plan.{Plan}
use Rattle.pb_lan.specs.declared.shape.Shape.{Shape}
use Rattle.pb_cmd_survive.specs.Reach.{TellsJoined}

-- a path over active links is a walk, and the other way round
leads-walk : (plan : Plan) (shape : Shape) (vid here : ℕ) (ks : List ℕ) (there : ℕ)
    → Leads plan (is_active plan shape vid) here ks there → IsWalk plan shape vid here ks there
leads-walk plan shape vid here [] there w = w
leads-walk plan shape vid here (k ∷ ks) there (near, far, c, n, w) =
    (near, far, c, n, leads-walk plan shape vid far.bridge ks there w)

walk-leads : (plan : Plan) (shape : Shape) (vid here : ℕ) (ks : List ℕ) (there : ℕ)
    → IsWalk plan shape vid here ks there → Leads plan (is_active plan shape vid) here ks there
walk-leads plan shape vid here [] there w = w
walk-leads plan shape vid here (k ∷ ks) there (near, far, c, n, w) =
    (near, far, c, n, walk-leads plan shape vid far.bridge ks there w)

-- marks for active links, for the contract of marks_by
pub tells_active : (plan : Plan) (shape : Shape) (vid : ℕ) (marks : List ℕ)
    → TellsJoinedBy plan (is_active plan shape vid) marks → TellsJoined plan shape vid marks
tells_active plan shape vid marks tells a b i j =
    let both = tells a b i j in (
      λ e. let joined = both.0 e in (joined.0, leads-walk plan shape vid a joined.0 b joined.1),
      λ joined. both.1 (joined.0, walk-leads plan shape vid a joined.0 b joined.1),
    )
