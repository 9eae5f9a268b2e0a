-- The links on the paths between the customer ports of a service.
use Rattle.std.specs.Prelude.{◌≡◌, ◌≢◌, ◌↔◌, ℕ, Bool, true, not, List, Some, ◌==◌, ◌&&◌, if◌then◌else◌, unwrap_or, count_by}
use Rattle.std.specs.declared.option.Option.{Option}
use Rattle.pb_forest.specs.ServiceVids.{vid_numbered}
use Rattle.pb_frame.specs.Admission.{same}
use Rattle.pb_joins.specs.Joins.{AreJoined, TellsJoined, mark_at}
use Rattle.pb_lan.specs.Numbering.{numbered}
use Rattle.pb_lan.specs.Shapes.{is_active, are_ends_forwarding}
use Rattle.pb_lan.specs.declared.plan.Plan.{Plan}
use Rattle.pb_lan.specs.declared.plan.LinkPlan.{LinkPlan}
use Rattle.pb_lan.specs.declared.plan.CustomerPlan.{CustomerPlan}
use Rattle.pb_lan.specs.declared.shape.Shape.{Shape}
use Rattle.pb_draw_layout.specs.Facts.{is_among}
use Rattle.pb_draw_layout.specs.declared.findings.Findings.{Findings}

-- the other link is active for the service, and is not this one
abbrev pub is_other : Plan → Shape → ℕ → LinkPlan → LinkPlan → Bool
is_other plan shape vid link other = is_active plan shape vid other && not (same other.name link.name)

-- the customer port is of the service, and at a bridge with the mark
abbrev pub is_site_at : List ℕ → ℕ → ℕ → CustomerPlan → Bool
is_site_at marks service mark c = c.service == service && mark_at marks c.bridge == mark

-- how many customer ports are
abbrev pub sites_at : Plan → List ℕ → ℕ → ℕ → ℕ
sites_at plan marks service mark = count_by (is_site_at marks service mark) plan.customers

-- how many customer ports have to be at the marks of a link's two bridges: two if the marks are equal
abbrev pub needed_sites : ℕ → ℕ → ℕ
needed_sites a b = if a == b then 2 else 1

-- links that pass the test join the bridge to a customer port of the service
pub record ReachesSite (plan : Plan) (test : LinkPlan → Bool) (service bridge : ℕ) : Type 0 where
  pub number : ℕ
  pub site : CustomerPlan
  pub planned : numbered plan.customers number ≡ Some site
  pub served : site.service ≡ service
  pub joined : AreJoined plan test bridge site.bridge

-- a link is on a path between two customer ports of the service if it is active, and other active links join one of its
-- bridges to the one port and the other bridge to the other port
pub record IsOnPath (plan : Plan) (shape : Shape) (service : ℕ) (link : LinkPlan) : Type 0 where
  pub active : is_active plan shape (vid_numbered plan service) link ≡ true
  pub a : ReachesSite plan (is_other plan shape (vid_numbered plan service) link) service link.a.bridge
  pub b : ReachesSite plan (is_other plan shape (vid_numbered plan service) link) service link.b.bridge
  pub two : a.number ≢ b.number

-- the numbers are those of the links on such paths
abbrev pub AreLit : Plan → Shape → ℕ → List ℕ → Type 0
AreLit plan shape service lit =
    (number : ℕ) (link : LinkPlan) → numbered plan.links number ≡ Some link → (is_among lit number ≡ true) ↔ IsOnPath plan shape service link

-- what is found out about a network
pub record AreFound (plan : Plan) (shape : Shape) (chosen : Option ℕ) (found : Findings) : Type 0 where
  pub chosen_is : found.chosen ≡ chosen
  pub trees : TellsJoined plan (are_ends_forwarding shape) found.trees
  pub sites : TellsJoined plan (is_active plan shape (vid_numbered plan (unwrap_or chosen 0))) found.sites
  pub lit : AreLit plan shape (unwrap_or chosen 0) found.lit
