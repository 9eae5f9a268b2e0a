-- The settings among a bridge's steps, after one more step.
use Rattle.std.proofs.Common.{◌≡◌, ◌↔◌, Bool, true, false, List, [], ◌∷◌, ◌++◌, Result, Ok, Err, IfOk, OnErr}
use Rattle.std.proofs.Common.{refl, ap, ◌∙◌}
use Rattle.pb_frame.proofs.Things.{flat_map-more, flat_map-none}
use Rattle.pb_lan.specs.declared.step.Step.{Step}
use Rattle.pb_lan.specs.declared.step.Step.TheVariants.{Admin}
use Rattle.pb_relay.specs.Changes.{HasSet}
use Rattle.pb_relay.specs.Standing.{BridgeView}
use Rattle.pb_threads.specs.Wishes.{HasFulfilled}
use Rattle.pb_threads.specs.declared.gate.Wish.{Wish}
use Rattle.pb_threads.specs.declared.turns.TurnStatus.{TurnStatus}
use Rattle.pb_threads.specs.declared.turns.TurnStatus.TheVariants.{Done}
use Rattle.pb_workers.specs.Settings.{settings, setting_of}

-- a step that sets no port
pub no_setting : (steps news : List Step) (step : Step) → news ≡ steps ++ step ∷ [] → setting_of step ≡ []
    → settings news ≡ settings steps
no_setting steps news step grown none = ap settings grown ∙ flat_map-none setting_of step none steps

-- the settings of a bridge that has set a port
one_setting : (old new : BridgeView) (wish : Wish) → HasSet old wish.port wish.up new
    → settings new.steps ≡ settings old.steps ++ wish ∷ []
one_setting old new wish has =
    ap (λ (b : BridgeView). settings b.steps) has.1
    ∙ flat_map-more setting_of old.steps (Admin wish.port wish.up has.0)

-- the bridge has fulfilled the wish exactly if the turn is Done
pub fulfilled_by : {E : Type 0} (result : Result Bool E) (old new : BridgeView) (wish : Wish) (status : TurnStatus)
    → IfOk result (λ has_set. has_set ≡ true → HasSet old wish.port wish.up new)
    → IfOk result (λ has_set. has_set ≡ false → new ≡ old) → OnErr result (new ≡ old)
    → ((status ≡ Done) ↔ (result ≡ Ok true))
    → HasFulfilled (settings old.steps) wish status (settings new.steps)
fulfilled_by (Ok true) old new wish status done left err is = (
  λ _. one_setting old new wish (done refl),
  λ not. absurd (not (is.1 refl)),
)
fulfilled_by (Ok false) old new wish status done left err is = (
  λ yes. let wrong = is.0 yes in absurd cc,
  λ _. ap (λ (b : BridgeView). settings b.steps) (left refl),
)
fulfilled_by (Err e) old new wish status done left err is = (
  λ yes. let wrong = is.0 yes in absurd cc,
  λ _. ap (λ (b : BridgeView). settings b.steps) err,
)
