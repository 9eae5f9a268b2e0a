-- The frames that a bridge received, with their outcomes.
use Rattle.std.specs.Prelude.{◌≡◌, ◌≢◌, ℕ, List, [], ◌∷◌, Some, flat_map}
use Rattle.pb_frame.specs.declared.learnt.Learnt.TheVariants.{Memory as not_learnt}
use Rattle.pb_lan.specs.declared.step.Outcome.{Outcome}
use Rattle.pb_lan.specs.declared.step.Outcome.TheVariants.{Relayed, Filtered, Heard}
use Rattle.pb_frame.specs.declared.reason.Reason.TheVariants.{Memory as want_of_memory}
use Rattle.pb_lan.specs.declared.step.Step.{Step}
use Rattle.pb_lan.specs.declared.step.Step.TheVariants.{Receive, Transmit}

-- a frame entered at a port, with this outcome
pub record Receipt : Type 0 where
  pub port : ℕ
  pub wire : List ℕ
  pub outcome : Outcome

abbrev pub receipt_by : Step → List Receipt
receipt_by (Receive port item learnt outcome moved) = record { port = port; wire = item.wire; outcome = outcome } ∷ []
receipt_by _ = []

-- the frames that a bridge received, in order
abbrev pub receipts : List Step → List Receipt
receipts steps = flat_map receipt_by steps

-- each chosen port got its copy, and no allocation for the frame failed
abbrev pub IsClearOutcome : Outcome → Type 0
IsClearOutcome (Relayed chosen refused) = refused ≡ []
IsClearOutcome (Filtered reason) = reason ≢ want_of_memory
IsClearOutcome Heard = Unit {0}

-- the step received a frame, with no failed allocation and no refused copy, or sent one: no clock ticked, and no port
-- was enabled or disabled
abbrev pub IsClear : Step → Type 0
IsClear (Receive port item learnt outcome moved) = (learnt ≢ Some not_learnt) × IsClearOutcome outcome
IsClear (Transmit port item) = Unit {0}
IsClear _ = ⊥
