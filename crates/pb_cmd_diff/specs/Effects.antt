-- What a failure does in each of two plans.
use Rattle.std.specs.Prelude.{◌≡◌, ◌↔◌, ℕ, List, [], IsTrue, map}
use Rattle.std.specs.List.{AllZip, zip}
use Rattle.pb_lan.specs.LastShapes.{last_shape}
use Rattle.pb_lan.specs.declared.plan.Plan.{Plan}
use Rattle.pb_cmd_survive.specs.Impacts.{IsImpact, IsStanding}
use Rattle.pb_cmd_survive.specs.declared.impact.Impact.{Impact}
use Rattle.pb_cmd_survive.specs.declared.view.View.{View}
use Rattle.pb_cmd_diff.specs.Compared.{service_in}
use Rattle.pb_cmd_diff.specs.Losses.{AreHarmed, AreHelped}
use Rattle.pb_cmd_diff.specs.Members.{members}
use Rattle.pb_cmd_diff.specs.Verdicts.{is_worse, is_better}
use Rattle.pb_cmd_diff.specs.declared.case.Case.{Case}
use Rattle.pb_cmd_diff.specs.declared.effect.Effect.{Effect}
use Rattle.pb_cmd_diff.specs.declared.effect.ServiceChange.{ServiceChange}
use Rattle.pb_cmd_diff.specs.declared.effect.Sides.{Sides}

-- a service in both networks
abbrev pub change_of : Plan → Plan → (View × View) → ServiceChange
change_of old new v = record {
  service = v.0.service;
  members = members old new v.0.sites v.1.sites;
  was_forest = v.0.is_forest;
  is_forest = v.1.is_forest;
}

-- both networks under a failure
abbrev pub effect_of : Plan → Plan → Case → Impact → Impact → Effect
effect_of old new what before after = record {
  what = what;
  old = before.convergence;
  new = after.convergence;
  services = map (change_of old new) (zip before.views after.views);
}

-- two networks that are up with nothing down and driven within the same limits, and the numbers of some services in both
pub record AreSides (s : Sides) : Type 0 where
  pub old_up : IsStanding s.old.now
  pub old_whole : s.old.now.names.now ≡ []
  pub new_up : IsStanding s.new.now
  pub new_whole : s.new.now.names.now ≡ []
  pub limits : s.new.now.patience ≡ s.old.now.patience
  pub numbers : s.news.now ≡ map (service_in s.old.now.plan.now s.new.now.plan.now) s.olds.now

-- The effect compares the impact of the failure in OLD with its impact in NEW. It is worse, or better, exactly if a service
-- or the bridges are, in the last shapes of the lawful records of both networks.
pub record IsEffect (old new : Plan) (services : List ℕ) (ticks events : ℕ) (what : Case) (effect : Effect) : Type 0 where
  pub before : Impact
  pub is_before : IsImpact old [] services ticks events what.old before
  pub after : Impact
  pub is_after : IsImpact new [] (map (service_in old new) services) ticks events what.new after
  pub compared : effect ≡ effect_of old new what before after
  pub worse : IsTrue (is_worse effect) ↔ AreHarmed old new services (last_shape old is_before.last.rec) (last_shape new is_after.last.rec) what before.convergence after.convergence
  pub better : IsTrue (is_better effect) ↔ AreHelped old new services (last_shape old is_before.last.rec) (last_shape new is_after.last.rec) what before.convergence after.convergence

-- the effect of a failure on two networks that are up
abbrev pub IsEffectOn : Sides → Case → Effect → Type 0
IsEffectOn s what effect =
    IsEffect s.old.now.plan.now s.new.now.plan.now s.olds.now s.old.now.patience.ticks s.old.now.patience.events what effect

-- the effects of these failures, in their order
abbrev pub AreEffects : Plan → Plan → List ℕ → ℕ → ℕ → List Case → List Effect → Type 0
AreEffects old new services ticks events cases effects = AllZip (IsEffect old new services ticks events) cases effects
