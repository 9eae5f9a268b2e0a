-- The state of services in a shape.
use Rattle.std.specs.Prelude.{◌≡◌, ◌↔◌, ℕ, Bool, List, IsTrue}
use Rattle.std.specs.List.{AllZip}
use Rattle.pb_forest.specs.ServiceVids.{vid_numbered}
use Rattle.pb_lan.specs.Forests.{IsForest}
use Rattle.pb_lan.specs.declared.plan.Plan.{Plan}
use Rattle.pb_lan.specs.declared.shape.Shape.{Shape}
use Rattle.pb_cmd_survive.specs.Groups.{AreGroups}
use Rattle.pb_cmd_survive.specs.declared.view.View.{View}

-- whether a service's active links are a forest, and the groups of its customer ports
pub record IsView (plan : Plan) (shape : Shape) (out : ℕ → Bool) (service : ℕ) (view : View) : Type 0 where
  pub number : view.service ≡ service
  pub forest : IsTrue view.is_forest ↔ IsForest plan shape (vid_numbered plan service)
  pub groups : AreGroups plan shape out service (vid_numbered plan service) view.sites

-- the state of each of these services, in their order
abbrev pub AreViews : Plan → Shape → (ℕ → Bool) → List ℕ → List View → Type 0
AreViews plan shape out services views = AllZip (IsView plan shape out) services views
