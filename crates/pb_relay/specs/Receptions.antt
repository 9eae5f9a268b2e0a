-- What a bridge returns for an item that it received.
use Rattle.std.specs.Prelude.{◌≡◌, ℕ, ◌-◌, List, length, Some, None, slice_get}
use Rattle.std.specs.declared.option.Option.{Option}
use Rattle.pb_frame.specs.declared.learnt.Learnt.{Learnt}
use Rattle.pb_lan.specs.BridgeLists.{Fits}
use Rattle.pb_history.specs.StepLists.{given_back}
use Rattle.pb_lan.specs.declared.step.Item.{Item}
use Rattle.pb_lan.specs.declared.step.Moved.{Moved}
use Rattle.pb_lan.specs.declared.step.Outcome.{Outcome}
use Rattle.pb_lan.specs.declared.step.Step.{Step}
use Rattle.pb_lan.specs.declared.step.Step.TheVariants.{Receive}
use Rattle.pb_relay.specs.Protocol.{spanning_tree}
use Rattle.pb_relay.specs.Standing.{BridgeView, with_step}

-- the bridge has appended the one step of the item received at the port, the step may come there, and it is returned if
-- the bridge only counts its steps
abbrev pub HasTaken : BridgeView → ℕ → Item → Option Step → BridgeView → Type 0
HasTaken old port item told new =
    (learnt : Option Learnt) × (outcome : Outcome) × (moved : Option Moved)
    × (new ≡ with_step old (Receive port item learnt outcome moved))
    × Fits spanning_tree old.plan old.number old.steps (Receive port item learnt outcome moved)
    × (told ≡ given_back old.is_kept (Receive port item learnt outcome moved))

-- the outcome of a Receive step
abbrev pub outcome_in : Step → Option Outcome
outcome_in (Receive port item learnt outcome moved) = Some outcome
outcome_in other = None

-- the outcome of the step, if there is one
abbrev pub outcome_at : Option Step → Option Outcome
outcome_at None = None
outcome_at (Some step) = outcome_in step

-- the outcome of the step that was given back, or of the last of the kept steps if none was
abbrev pub newest_outcome : Option Step → List Step → Option Outcome
newest_outcome (Some step) kept = outcome_in step
newest_outcome None kept = outcome_at (slice_get kept (length kept - 1))
