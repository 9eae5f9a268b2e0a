-- The outcome of a received item, read from the step that was given back or kept. For `receive`.
use Rattle.std.proofs.Common.{◌≡◌, ◌-◌, ℕ, Bool, true, false, List, [], ◌∷◌, ◌++◌, Some, Option, length}
use Rattle.std.proofs.Common.{ap, refl, ◌∙◌, slice_get}
use Rattle.pb_frame.proofs.Things.{last_is}
use Rattle.pb_lan.specs.declared.step.Item.{Item}
use Rattle.pb_lan.specs.declared.step.Step.{Step}
use Rattle.pb_lan.specs.declared.step.Step.TheVariants.{Receive}
use Rattle.pb_relay.specs.Receptions.{HasTaken, newest_outcome, outcome_at}
use Rattle.pb_relay.specs.Standing.{BridgeView, with_step}
use Rattle.pb_history.specs.StepLists.{given_back}

-- the newest outcome is that of the step that was appended
pub told_outcome : (old new inside : BridgeView) (port : ℕ) (item : Item) (given : Option Step) (kept : List Step)
    (taken : HasTaken old port item given new)
    → inside ≡ new → (inside.is_kept ≡ true → kept ≡ inside.steps) → newest_outcome given kept ≡ Some taken.1
told_outcome old new inside port item given kept taken seen held = by_flag old.is_kept refl
  where
    step : Step
    step = Receive port item taken.0 taken.1 taken.2

    is_new : inside ≡ with_step old step
    is_new = seen ∙ taken.3

    by_flag : (b : Bool) → old.is_kept ≡ b → newest_outcome given kept ≡ Some taken.1
    by_flag false eb = ap (λ o. newest_outcome o kept) (taken.5 ∙ ap (λ b. given_back b step) eb)
    by_flag true eb =
        let is_kept : inside.is_kept ≡ true = ap (λ (b : BridgeView). b.is_kept) is_new ∙ eb in
        let steps : kept ≡ old.steps ++ step ∷ [] = held is_kept ∙ ap (λ (b : BridgeView). b.steps) is_new in
        ap (λ o. newest_outcome o kept) (taken.5 ∙ ap (λ b. given_back b step) eb)
        ∙ ap (λ xs. outcome_at (slice_get xs (length xs - 1))) steps ∙ ap outcome_at (last_is old.steps step)
