-- Runs in which no bridge refuses a copy of a frame because a queue is full.
use Rattle.std.specs.Prelude.{◌≡◌, Bool, false}
use Rattle.std.specs.List.{AllByRecursion, list_any}
use Rattle.pb_lan.specs.BridgeLists.{is_full_word}
use Rattle.pb_lan.specs.declared.record.Record.{Record}
use Rattle.pb_lan.specs.declared.step.Outcome.TheVariants.{Relayed}
use Rattle.pb_lan.specs.declared.step.Step.{Step}
use Rattle.pb_lan.specs.declared.step.Step.TheVariants.{Receive}

-- the bridge relayed a frame, and a chosen port got no copy because its queue was full
abbrev pub refuses_when_full : Step → Bool
refuses_when_full (Receive port item learnt (Relayed chosen refused) moved) = list_any (λ r. is_full_word r.1) refused
refuses_when_full _ = false

-- no bridge refused a copy of a frame because a queue was full
abbrev pub NoFullQueueRefuses : Record → Type 0
NoFullQueueRefuses rec = AllByRecursion (λ steps. list_any refuses_when_full steps ≡ false) rec.bridges
