-- Steps in whose course an allocation failed.
use Rattle.std.specs.Prelude.{ℕ, Bool, true, false, ◌||◌, List, [], ◌∷◌}
use Rattle.std.specs.List.{list_any}
use Rattle.pb_frame.specs.declared.reason.Reason.TheVariants.{Memory as no_memory}
use Rattle.pb_lan.specs.declared.step.NoRoom.{NoRoom}
use Rattle.pb_lan.specs.declared.step.NoRoom.TheVariants.{Memory}
use Rattle.pb_lan.specs.declared.step.Outcome.TheVariants.{Filtered}
use Rattle.pb_lan.specs.declared.step.Step.{Step}
use Rattle.pb_lan.specs.declared.step.Step.TheVariants.{Receive}
use Rattle.pb_history.specs.Losses.{refused_by, dropped_by, unlearnt_by, is_cause}

-- a frame was dropped because an allocation failed
abbrev pub drops_for_memory : Step → Bool
drops_for_memory (Receive port item learnt (Filtered no_memory) moved) = true
drops_for_memory _ = false

-- one of these copies or BPDUs was not queued because an allocation failed
abbrev pub any_memory : List (ℕ × NoRoom) → Bool
any_memory losses = list_any (λ loss. is_cause Memory loss.1) losses

-- in the course of the step an allocation failed: a frame was dropped, a copy or a BPDU was not queued, or a source
-- was not learnt for that
abbrev pub lacks_memory : Step → Bool
lacks_memory step =
    ((drops_for_memory step || any_memory (refused_by step)) || any_memory (dropped_by step)) || list_any (is_cause Memory) (unlearnt_by step)
