-- What a service loses or gains by the change from OLD to NEW: customer ports that reach each other, and forwarding loops.
use Rattle.std.specs.Prelude.{◌≡◌, ◌⊎◌, ℕ, List, [], true, false, Contains}
use Rattle.std.specs.List.{Any}
use Rattle.pb_forest.specs.ServiceVids.{vid_numbered}
use Rattle.pb_lan.specs.Forests.{IsForest}
use Rattle.pb_lan.specs.declared.plan.Plan.{Plan}
use Rattle.pb_lan.specs.declared.shape.Shape.{Shape}
use Rattle.pb_names.specs.Names.{port_name}
use Rattle.pb_names.specs.Numbers.{port_named}
use Rattle.pb_converge.specs.declared.convergence.Convergence.{Convergence}
use Rattle.pb_cmd_survive.specs.Failures.{is_out}
use Rattle.pb_cmd_survive.specs.Groups.{ports_of}
use Rattle.pb_cmd_survive.specs.Reach.{CanReach}
use Rattle.pb_cmd_survive.specs.Verdicts.{is_converged}
use Rattle.pb_cmd_diff.specs.Compared.{service_in}
use Rattle.pb_cmd_diff.specs.declared.case.Case.{Case}

-- the number that a customer port of OLD has in NEW, by its name, or 0
abbrev pub port_in : Plan → Plan → ℕ → ℕ
port_in old new port = port_named new (port_name old port)

-- the service has the two ports in both plans
pub record AreShared (old new : Plan) (service p q : ℕ) : Type 0 where
  pub p_was : Contains (ports_of old service) p
  pub q_was : Contains (ports_of old service) q
  pub p_is : Contains (ports_of new (service_in old new service)) (port_in old new p)
  pub q_is : Contains (ports_of new (service_in old new service)) (port_in old new q)

-- two ports of a service of OLD reach each other in the shape of OLD, under a failure
abbrev pub HaveReached : Plan → Shape → Case → ℕ → ℕ → ℕ → Type 0
HaveReached old before what service p q = CanReach old before (is_out old [] what.old) (vid_numbered old service) p q

-- the ports of their names reach each other in the shape of NEW, under the same failure
abbrev pub DoReach : Plan → Plan → Shape → Case → ℕ → ℕ → ℕ → Type 0
DoReach old new after what service p q =
    CanReach new after (is_out new [] what.new) (vid_numbered new (service_in old new service)) (port_in old new p)
    (port_in old new q)

-- the service has two ports that reach each other in OLD, and not in NEW
pub record Loses (old new : Plan) (before after : Shape) (what : Case) (service : ℕ) : Type 0 where
  pub p : ℕ
  pub q : ℕ
  pub shared : AreShared old new service p q
  pub reached : HaveReached old before what service p q
  pub lost : DoReach old new after what service p q → ⊥

-- the service has two ports that reach each other in NEW, and not in OLD
pub record Gains (old new : Plan) (before after : Shape) (what : Case) (service : ℕ) : Type 0 where
  pub p : ℕ
  pub q : ℕ
  pub shared : AreShared old new service p q
  pub apart : HaveReached old before what service p q → ⊥
  pub gained : DoReach old new after what service p q

-- the active links of the service are a forest in the shape of OLD, or of NEW
abbrev pub WasForest : Plan → Shape → ℕ → Type 0
WasForest old before service = IsForest old before (vid_numbered old service)

abbrev pub IsForestNow : Plan → Plan → Shape → ℕ → Type 0
IsForestNow old new after service = IsForest new after (vid_numbered new (service_in old new service))

-- they form a loop in NEW, and not in OLD
abbrev pub FormsLoop : Plan → Plan → Shape → Shape → ℕ → Type 0
FormsLoop old new before after service = WasForest old before service × (IsForestNow old new after service → ⊥)

-- they form a loop in OLD, and not in NEW
abbrev pub EndsLoop : Plan → Plan → Shape → Shape → ℕ → Type 0
EndsLoop old new before after service = IsForestNow old new after service × (WasForest old before service → ⊥)

-- the service is worse in NEW
abbrev pub IsHarmed : Plan → Plan → Shape → Shape → Case → ℕ → Type 0
IsHarmed old new before after what service = Loses old new before after what service ⊎ FormsLoop old new before after service

-- the service is better in NEW
abbrev pub IsHelped : Plan → Plan → Shape → Shape → Case → ℕ → Type 0
IsHelped old new before after what service = Gains old new before after what service ⊎ EndsLoop old new before after service

-- the bridges converge in one of the networks, and not in the other
abbrev pub Differ : Convergence → Convergence → Type 0
Differ one other = (is_converged one ≡ true) × (is_converged other ≡ false)

-- one of the services is worse in NEW, or the bridges no longer converge
abbrev pub AreHarmed : Plan → Plan → List ℕ → Shape → Shape → Case → Convergence → Convergence → Type 0
AreHarmed old new services before after what was is = Any (IsHarmed old new before after what) services ⊎ Differ was is

-- one of the services is better in NEW, or the bridges now converge
abbrev pub AreHelped : Plan → Plan → List ℕ → Shape → Shape → Case → Convergence → Convergence → Type 0
AreHelped old new services before after what was is = Any (IsHelped old new before after what) services ⊎ Differ is was
